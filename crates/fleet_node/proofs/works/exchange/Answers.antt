use Rattle.node_exchange.specs.LaterLaws.{later_same}
use Rattle.fleet_node.proofs.works.exchange.Goals as goal

pub returns-in_err-seed-clause-later : goal.returns-in_err-seed-clause-later
returns-in_err-seed-clause-later g c = later_same g.L.EditLog.is_honest g.L.EditLog.head g.L.EditLog.may_leave c.args.node.now
