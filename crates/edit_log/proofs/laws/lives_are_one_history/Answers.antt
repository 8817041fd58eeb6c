use Rattle.edit_log.specs.LifeLaws.{one_life}
use Rattle.edit_log.proofs.laws.lives_are_one_history.Goals as goal

pub returns : goal.returns
returns c = record { one = one_life }
