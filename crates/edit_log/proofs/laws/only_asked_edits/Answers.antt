use Rattle.edit_log.specs.LifeLaws.{asked}
use Rattle.edit_log.proofs.laws.only_asked_edits.Goals as goal

pub returns : goal.returns
returns c = record { asked = asked }
