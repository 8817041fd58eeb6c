use Rattle.node_exchange.specs.LaterLaws.{later_same}
use Rattle.node_exchange.proofs.Keeping.{later_committed}
use Rattle.node_exchange.proofs.knowing.note.Goals as goal

pub returns-then-is_empty-clause-later : goal.returns-then-is_empty-clause-later
returns-then-is_empty-clause-later g c = later_same g.L.EditLog.is_honest g.L.EditLog.head g.L.EditLog.may_leave c.args.node.now

pub returns-in_err-note_peers-clause-later : goal.returns-in_err-note_peers-clause-later
returns-in_err-note_peers-clause-later g c =
    later_committed g.L.EditLog.is_honest g.L.EditLog.head g.L.EditLog.may_leave c.args.node.now c.note_peers.new.self c.note_peers.ensures.replica c.note_peers.ensures.head c.note_peers.ensures.honest (λ h. c.note_peers.ensures.saved h c.requires.saved)

pub returns-clause-later : goal.returns-clause-later
returns-clause-later g c =
    later_committed g.L.EditLog.is_honest g.L.EditLog.head g.L.EditLog.may_leave c.args.node.now c.note_peers.new.self c.note_peers.ensures.replica c.note_peers.ensures.head c.note_peers.ensures.honest (λ h. c.note_peers.ensures.saved h c.requires.saved)
