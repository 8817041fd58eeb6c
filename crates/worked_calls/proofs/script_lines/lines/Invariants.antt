use Rattle.std.proofs.Common.{length}
use Rattle.worked_calls.proofs.script_lines.lines.Given as goal

abbrev pub decreases-loop-rest : goal.decreases-loop-rest
decreases-loop-rest l = length l.rest
