use Rattle.std.proofs.Common.{◌∙◌, refl}
use Rattle.node_exchange.specs.LaterLaws.{later_same, later_then}
use Rattle.node_exchange.proofs.Talking.{hearing_begun, hearing_ends, hearing_more}
use Rattle.node_exchange.proofs.hearing.hear.Goals as goal

pub loop-init : goal.loop-init
loop-init g c = record {
  hearing = hearing_begun c.args.first c.args.node.now.replica.store c.nothing-heard.result.prints.items c.nothing-heard.result.asks.items (g.S.Source.remaining c.args.source.now) c.nothing-heard.ensures.prints c.nothing-heard.ensures.asks;
  later = later_same g.L.EditLog.is_honest g.L.EditLog.head g.L.EditLog.may_leave c.args.node.now;
  peers = λ h. refl;
  whole = c.requires.whole;
  saved = c.requires.saved;
}

pub returns-in_err-take_frame-clause-later : goal.returns-in_err-take_frame-clause-later
returns-in_err-take_frame-clause-later g c =
    later_then g.L.EditLog.is_honest g.L.EditLog.head g.L.EditLog.may_leave c.args.node.now c.loop.node c.take_frame.new.node c.loop.invariant.later c.take_frame.ensures.later

pub returns-then-not-more-clause-later : goal.returns-then-not-more-clause-later
returns-then-not-more-clause-later g c =
    later_then g.L.EditLog.is_honest g.L.EditLog.head g.L.EditLog.may_leave c.args.node.now c.loop.node c.take_frame.new.node c.loop.invariant.later c.take_frame.ensures.later

pub returns-then-not-more-clause-heard : goal.returns-then-not-more-clause-heard
returns-then-not-more-clause-heard g c =
    hearing_ends c.args.first c.loop.frame c.args.node.now.replica.store c.loop.node.replica.store c.take_frame.new.node.replica.store c.loop.heard.prints.items c.take_frame.new.heard.prints.items c.loop.heard.asks.items c.take_frame.new.heard.asks.items
    (g.S.Source.remaining c.args.source.now) (g.S.Source.remaining c.loop.source) c.loop.invariant.hearing c.in_ok-take_frame.ensures.taken c.in_ok-take_frame.ensures.prints c.in_ok-take_frame.ensures.asks c.if-not-more.true

pub returns-then-not-more-clause-peers : goal.returns-then-not-more-clause-peers
returns-then-not-more-clause-peers g c h = c.in_ok-take_frame.ensures.peers h ∙ c.loop.invariant.peers (c.take_frame.ensures.later.honest h)

pub returns-in_err-frame-clause-later : goal.returns-in_err-frame-clause-later
returns-in_err-frame-clause-later g c =
    later_then g.L.EditLog.is_honest g.L.EditLog.head g.L.EditLog.may_leave c.args.node.now c.loop.node c.take_frame.new.node c.loop.invariant.later c.take_frame.ensures.later

pub loop-preserved : goal.loop-preserved
loop-preserved g c = record {
  hearing = hearing_more c.args.first c.loop.frame c.in_ok-frame.frame c.args.node.now.replica.store c.loop.node.replica.store c.take_frame.new.node.replica.store c.loop.heard.prints.items c.take_frame.new.heard.prints.items c.loop.heard.asks.items c.take_frame.new.heard.asks.items
      (g.S.Source.remaining c.args.source.now) (g.S.Source.remaining c.loop.source) (g.S.Source.remaining c.read_next.new.source) c.loop.invariant.hearing c.in_ok-take_frame.ensures.taken c.in_ok-take_frame.ensures.prints c.in_ok-take_frame.ensures.asks c.if-not-more.false
      c.in_ok-frame.ensures.unnamed c.in_ok-frame.ensures.read;
  later = later_then g.L.EditLog.is_honest g.L.EditLog.head g.L.EditLog.may_leave c.args.node.now c.loop.node c.take_frame.new.node c.loop.invariant.later c.take_frame.ensures.later;
  peers = λ h. c.in_ok-take_frame.ensures.peers h ∙ c.loop.invariant.peers (c.take_frame.ensures.later.honest h);
  whole = c.in_ok-take_frame.ensures.whole;
  saved = c.in_ok-take_frame.ensures.saved;
}
