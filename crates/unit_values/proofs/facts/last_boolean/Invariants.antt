use Rattle.std.proofs.Common.{◌≡◌}
use Rattle.unit_values.proofs.Prelude.{last_boolean, map, take}
use Rattle.unit_values.proofs.facts.last_boolean.Given as goal

abbrev pub invariant-loop-value : goal.invariant-loop-value
invariant-loop-value l = l.last ≡ last_boolean (map (λ value. value.now) (take l.value-index l.values))
