use Rattle.std.proofs.Common.{◌≡◌}
use Rattle.implied_names.proofs.Prelude.{joined, map, take}
use Rattle.implied_names.proofs.paths.joined.Given as goal

abbrev pub invariant-loop-part : goal.invariant-loop-part
invariant-loop-part l = l.text.items ≡ joined (map (λ part. part.now) (take l.part-index l.parts))
