use Rattle.std.proofs.Common.{length}
use Rattle.worked_calls.proofs.script_lines.parts.Given as goal

abbrev pub decreases-loop-word : goal.decreases-loop-word
decreases-loop-word l = length l.rest
