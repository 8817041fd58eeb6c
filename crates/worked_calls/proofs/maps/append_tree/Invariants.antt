use Rattle.std.proofs.Common.{length}
use Rattle.worked_calls.proofs.maps.append_tree.Given as goal

abbrev pub decreases-loop-outer : goal.decreases-loop-outer
decreases-loop-outer l = length l.pairs
