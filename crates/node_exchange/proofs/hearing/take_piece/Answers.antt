use Rattle.node_exchange.specs.LaterLaws.{later_then}
use Rattle.node_exchange.proofs.Keeping.{later_committed, later_in_memory}
use Rattle.node_exchange.proofs.hearing.take_piece.Goals as goal

pub returns-in_err-absorb-clause-later : goal.returns-in_err-absorb-clause-later
returns-in_err-absorb-clause-later g c =
    later_in_memory g.L.EditLog.is_honest g.L.EditLog.head g.L.EditLog.may_leave c.args.node.now c.absorb.new.self c.absorb.ensures.log c.absorb.ensures.writer c.absorb.ensures.held

pub returns-then-is_empty-clause-later : goal.returns-then-is_empty-clause-later
returns-then-is_empty-clause-later g c =
    later_in_memory g.L.EditLog.is_honest g.L.EditLog.head g.L.EditLog.may_leave c.args.node.now c.absorb.new.self c.absorb.ensures.log c.absorb.ensures.writer c.absorb.ensures.held

pub returns-clause-later : goal.returns-clause-later
returns-clause-later g c =
    let log = g.L.EditLog in
    later_then log.is_honest log.head log.may_leave c.args.node.now c.absorb.new.self c.commit.new.self
    (later_in_memory log.is_honest log.head log.may_leave c.args.node.now c.absorb.new.self c.absorb.ensures.log c.absorb.ensures.writer c.absorb.ensures.held)
    (later_committed log.is_honest log.head log.may_leave c.absorb.new.self c.commit.new.self c.commit.ensures.replica c.commit.ensures.head c.commit.ensures.honest c.commit.ensures.found)
