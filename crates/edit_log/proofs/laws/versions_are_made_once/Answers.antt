use Rattle.edit_log.specs.LifeLaws.{fresh, stays_honest}
use Rattle.edit_log.proofs.laws.versions_are_made_once.Goals as goal

pub returns : goal.returns
returns c = record { fresh = fresh; honest = stays_honest }
