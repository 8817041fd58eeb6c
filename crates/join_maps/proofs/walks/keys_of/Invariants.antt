use Rattle.std.proofs.Common.{◌++◌, ◌≡◌}
use Rattle.join_maps.proofs.Prelude.{length, map}
use Rattle.join_maps.proofs.walks.keys_of.Given as goal

abbrev pub invariant-loop-pair : goal.invariant-loop-pair
invariant-loop-pair g l = map (λ k. k.now) l.keys.items ++ map (λ pair. pair.0) l.pairs ≡ map (λ pair. pair.0) l.all

abbrev pub decreases-loop-pair : goal.decreases-loop-pair
decreases-loop-pair g l = length l.pairs
