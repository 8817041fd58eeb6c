use Rattle.std.proofs.Common.{◌≡◌, take}
use Rattle.edit_log.specs.Logs.{stamped}
use Rattle.edit_log.proofs.memory.stamp.Given as goal

abbrev pub invariant-loop-edit : goal.invariant-loop-edit
invariant-loop-edit l = l.rows.items ≡ stamped l.time (take l.edit-index l.edits)
