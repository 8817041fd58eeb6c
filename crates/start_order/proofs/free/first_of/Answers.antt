use Rattle.start_order.proofs.Frees.{key_least}
use Rattle.start_order.proofs.free.first_of.Goals as goal

pub returns-in-Some : goal.returns-in-Some
returns-in-Some c = key_least c.args.nodes.now.keys c.in-Some.node.now c.in-Some.ensures.first c.in-Some.ensures.all_from
