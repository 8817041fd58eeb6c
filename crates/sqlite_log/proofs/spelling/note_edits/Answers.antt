use Rattle.std.proofs.Common.{rules}
use Rattle.sqlite_log.specs.Cells.{IsEdit}
use Rattle.sqlite_log.proofs.Steps.{all_more}
use Rattle.sqlite_log.proofs.spelling.note_edits.Goals as goal

pub loop-edit-preserved : goal.loop-edit-preserved
loop-edit-preserved c = all_more IsEdit c.args.edits.now c.loop-edit.edit-index c.edit-item.result (search rules) c.edit-item.is c.loop-edit.invariant c.note_edit.ensures.fits
