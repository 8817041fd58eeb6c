use Rattle.edit_log.specs.LifeLaws.{answered_stays, logged_stays}
use Rattle.edit_log.proofs.laws.answered_edits_stay.Goals as goal

pub returns : goal.returns
returns c = record { logged = logged_stays; answered = answered_stays }
