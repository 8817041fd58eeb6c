use Rattle.std.proofs.Common.{◌++◌, ◌≡◌}
use Rattle.path_maps.proofs.Prelude.{length, map}
use Rattle.path_maps.proofs.places.Entries.places.Given as goal

abbrev pub invariant-loop-placed : goal.invariant-loop-placed
invariant-loop-placed l = l.places.items ++ map (λ p. p.0) l.self ≡ map (λ p. p.0) l.fn.self

abbrev pub decreases-loop-placed : goal.decreases-loop-placed
decreases-loop-placed l = length l.self
