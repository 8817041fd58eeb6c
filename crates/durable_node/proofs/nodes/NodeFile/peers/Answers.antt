use Rattle.std.proofs.Common.{subst}
use Rattle.durable_node.specs.Nodes.{Node}
use Rattle.durable_node.specs.Peers.{AreLatest}
use Rattle.durable_node.proofs.Knowing.{latest_moved}
use Rattle.durable_node.proofs.nodes.NodeFile.peers.Goals as goal

pub returns-in_ok-latest-in-Ok-clause-latest : goal.returns-in_ok-latest-in-Ok-clause-latest
returns-in_ok-latest-in-Ok-clause-latest g c honest =
    let log = g.L.EditLog in
    let latest = c.in_ok-latest-in-Ok.field-0.items in
    subst (λ (n : Node _). AreLatest (log.peers n.log) latest) c.self.view_is
    (latest_moved (log.peers c.self.inside.log) c.in-Ok.peers.items latest (c.in-Ok.ensures.all honest) c.in_ok-latest-in-Ok.ensures.latest)
