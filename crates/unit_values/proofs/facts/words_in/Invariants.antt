use Rattle.std.proofs.Common.{◌≡◌}
use Rattle.unit_values.proofs.Prelude.{flat_map, map, words_of}
use Rattle.unit_values.proofs.facts.words_in.Given as goal

abbrev pub invariant-loop-value : goal.invariant-loop-value
invariant-loop-value l = map (λ word. word.now) l.words.items ≡ flat_map words_of (map (λ value. value.now) l.yielded)
