use Rattle.std.proofs.Common.{take}
use Rattle.std.specs.List.{AllByRecursion}
use Rattle.sqlite_log.specs.Cells.{IsEdit}
use Rattle.sqlite_log.proofs.spelling.note_edits.Given as goal

abbrev pub invariant-loop-edit : goal.invariant-loop-edit
invariant-loop-edit l = AllByRecursion IsEdit (take l.edit-index l.edits)
