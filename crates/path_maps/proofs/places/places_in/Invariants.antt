use Rattle.std.proofs.Common.{◌++◌, ◌≡◌}
use Rattle.path_maps.proofs.Prelude.{length, map, placed}
use Rattle.path_maps.proofs.places.places_in.Given as goal

abbrev pub invariant-loop-entry : goal.invariant-loop-entry
invariant-loop-entry l = l.places.items ++ map (λ p. p.0) (placed l.fn.scope l.entries) ≡ map (λ p. p.0) (placed l.fn.scope l.fn.entries)

abbrev pub decreases-loop-entry : goal.decreases-loop-entry
decreases-loop-entry l = length l.entries
