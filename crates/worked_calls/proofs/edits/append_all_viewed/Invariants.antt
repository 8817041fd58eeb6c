use Rattle.std.proofs.Common.{length}
use Rattle.worked_calls.proofs.edits.append_all_viewed.Given as goal

abbrev pub decreases-loop-placed : goal.decreases-loop-placed
decreases-loop-placed l = length l.entries
