use Rattle.std.proofs.Common.{inl}
use Rattle.node_exchange.proofs.Keeping.{later_committed}
use Rattle.node_exchange.proofs.knowing.known_peers.Goals as goal

pub returns-in_err-peers-clause-later : goal.returns-in_err-peers-clause-later
returns-in_err-peers-clause-later g c =
    later_committed g.L.EditLog.is_honest g.L.EditLog.head g.L.EditLog.may_leave c.args.node.now c.peers.new.self c.peers.ensures.replica c.peers.ensures.head c.peers.ensures.honest (λ h left may. inl (c.peers.ensures.crash h left may))

pub returns-clause-later : goal.returns-clause-later
returns-clause-later g c =
    later_committed g.L.EditLog.is_honest g.L.EditLog.head g.L.EditLog.may_leave c.args.node.now c.peers.new.self c.peers.ensures.replica c.peers.ensures.head c.peers.ensures.honest (λ h left may. inl (c.peers.ensures.crash h left may))
