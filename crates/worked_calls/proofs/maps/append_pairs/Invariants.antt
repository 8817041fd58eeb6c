use Rattle.std.proofs.Common.{length}
use Rattle.worked_calls.proofs.maps.append_pairs.Given as goal

abbrev pub decreases-loop-key : goal.decreases-loop-key
decreases-loop-key l = length l.pairs
