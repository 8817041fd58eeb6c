use Rattle.delta_gossip.proofs.Joins.{join_all_least}
use Rattle.delta_gossip.proofs.laws.joins_of_all.Goals as goal

pub returns : goal.returns
returns c = record { least = join_all_least }
