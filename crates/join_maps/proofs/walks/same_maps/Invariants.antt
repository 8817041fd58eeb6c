use Rattle.std.proofs.Common.{◌↔◌, ◌≡◌}
use Rattle.join_maps.proofs.Prelude.{length}
use Rattle.join_maps.proofs.walks.same_maps.Given as goal

abbrev pub invariant-loop-pair : goal.invariant-loop-pair
invariant-loop-pair g l = (l.pairs ≡ l.others) ↔ (l.left ≡ l.right)

abbrev pub decreases-loop-pair : goal.decreases-loop-pair
decreases-loop-pair g l = length l.pairs
