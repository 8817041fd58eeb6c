use Rattle.std.proofs.Common.{◌≡◌, ◌∙◌, [], None, Option, refl, rules, subst}
use Rattle.exchange_bytes.specs.declared.frames.Hello.{Hello}
use Rattle.exchange_session.specs.Runs.{said_of}
use Rattle.node_exchange.specs.Talks.{IsAnswer, Written}
use Rattle.node_exchange.specs.LaterLaws.{later_same, later_then}
use Rattle.node_exchange.proofs.Talking.{answer_moved, talking_begun, talking_heard_out, talking_more, talking_said_out}
use Rattle.node_exchange.proofs.turns.converse.Goals as goal

pub loop-init : goal.loop-init
loop-init g c = record {
  talking = talking_begun c.args.seed c.args.node.now.replica.store (record { prints = c.args.heard.prints.items; asks = c.args.heard.asks.items; pieces = [] }) c.args.hello (g.K.Sink.contents c.args.sink.now) (g.S.Source.remaining c.args.source.now);
  later = later_same g.L.EditLog.is_honest g.L.EditLog.head g.L.EditLog.may_leave c.args.node.now;
  peers = λ h. refl;
  whole = c.requires.whole;
  saved = c.requires.saved;
}

pub returns-then-is_none-clause-talks : goal.returns-then-is_none-clause-talks
returns-then-is_none-clause-talks g c =
    let none : c.loop.hello ≡ None = search rules in
    talking_heard_out c.args.seed c.args.node.now.replica.store (record { prints = c.args.heard.prints.items; asks = c.args.heard.asks.items; pieces = [] }) c.args.hello c.loop.node.replica.store
    (record { prints = c.loop.heard.prints.items; asks = c.loop.heard.asks.items; pieces = [] }) c.loop.hello (g.K.Sink.contents c.args.sink.now) (g.K.Sink.contents c.loop.sink) (g.S.Source.remaining c.args.source.now) (g.S.Source.remaining c.loop.source)
    c.loop.invariant.talking none (c.is_quiet.ensures.quiet.0 c.if-is_quiet.true)

pub returns-then-is_last-clause-talks : goal.returns-then-is_last-clause-talks
returns-then-is_last-clause-talks g c =
    let e = c.in_ok-message.ensures in
    let said = said_of c.in_ok-message.message in
    let made : IsAnswer c.args.seed c.replica.result.now.store (record { prints = c.into_parts-prints.result.0.items; asks = c.into_parts-prints.result.1.items; pieces = [] }) said =
    record { reply = record { prints = e.prints; asks = e.asks; pieces = e.pieces; pursued = e.pursued; asked_back = e.asked_back }; stays = e.stays; agreed = e.agreed; quiet = e.quiet } in
    let answer = answer_moved c.args.seed c.replica.result.now.store c.loop.node.replica.store c.into_parts-prints.result.0.items c.loop.heard.prints.items c.into_parts-prints.result.1.items c.loop.heard.asks.items said
    (λ i. (c.replica.ensures.replica i).store) (λ i. (c.into_parts-prints.ensures.prints i).items) (λ i. (c.into_parts-prints.ensures.asks i).items) made in
    let before = g.K.Sink.contents c.loop.sink in
    let after = g.K.Sink.contents c.say.new.sink in
    let written : Written c.loop.hello said before after = subst (λ (h : Option Hello). Written h said before after) c.take.ensures.value c.in_ok-say.ensures.written in
    talking_said_out c.args.seed c.args.node.now.replica.store (record { prints = c.args.heard.prints.items; asks = c.args.heard.asks.items; pieces = [] }) c.args.hello c.loop.node.replica.store
    (record { prints = c.loop.heard.prints.items; asks = c.loop.heard.asks.items; pieces = [] }) said c.loop.hello (g.K.Sink.contents c.args.sink.now) before after (g.S.Source.remaining c.args.source.now) (g.S.Source.remaining c.loop.source)
    c.loop.invariant.talking answer written (c.is_quiet-is_last.ensures.quiet.0 c.if-is_last.true)

pub returns-in_err-heard-clause-later : goal.returns-in_err-heard-clause-later
returns-in_err-heard-clause-later g c =
    later_then g.L.EditLog.is_honest g.L.EditLog.head g.L.EditLog.may_leave c.args.node.now c.loop.node c.hear.new.node c.loop.invariant.later c.hear.ensures.later

pub loop-preserved : goal.loop-preserved
loop-preserved g c =
    let e = c.in_ok-message.ensures in
    let said = said_of c.in_ok-message.message in
    let made : IsAnswer c.args.seed c.replica.result.now.store (record { prints = c.into_parts-prints.result.0.items; asks = c.into_parts-prints.result.1.items; pieces = [] }) said =
    record { reply = record { prints = e.prints; asks = e.asks; pieces = e.pieces; pursued = e.pursued; asked_back = e.asked_back }; stays = e.stays; agreed = e.agreed; quiet = e.quiet } in
    let answer = answer_moved c.args.seed c.replica.result.now.store c.loop.node.replica.store c.into_parts-prints.result.0.items c.loop.heard.prints.items c.into_parts-prints.result.1.items c.loop.heard.asks.items said
    (λ i. (c.replica.ensures.replica i).store) (λ i. (c.into_parts-prints.ensures.prints i).items) (λ i. (c.into_parts-prints.ensures.asks i).items) made in
    let before = g.K.Sink.contents c.loop.sink in
    let after = g.K.Sink.contents c.say.new.sink in
    let written : Written c.loop.hello said before after = subst (λ (h : Option Hello). Written h said before after) c.take.ensures.value c.in_ok-say.ensures.written in
    let far = talking_more c.args.seed c.args.node.now.replica.store (record { prints = c.args.heard.prints.items; asks = c.args.heard.asks.items; pieces = [] }) c.args.hello c.loop.node.replica.store c.hear.new.node.replica.store
    (record { prints = c.loop.heard.prints.items; asks = c.loop.heard.asks.items; pieces = [] }) said c.loop.hello (g.K.Sink.contents c.args.sink.now) before after
    (g.S.Source.remaining c.args.source.now) (g.S.Source.remaining c.loop.source) (g.S.Source.remaining c.read_next.new.source) (g.S.Source.remaining c.hear.new.source)
    c.in_ok-first.first c.in_ok-heard.heard.prints.items c.in_ok-heard.heard.asks.items c.loop.invariant.talking answer written c.in_ok-first.ensures.unnamed c.in_ok-first.ensures.read c.in_ok-heard.ensures.heard in
    record {
      talking = rw (c.take.ensures.after) far;
      later = later_then g.L.EditLog.is_honest g.L.EditLog.head g.L.EditLog.may_leave c.args.node.now c.loop.node c.hear.new.node c.loop.invariant.later c.hear.ensures.later;
      peers = λ h. c.in_ok-heard.ensures.peers h ∙ c.loop.invariant.peers (c.hear.ensures.later.honest h);
      whole = c.in_ok-heard.ensures.whole;
      saved = c.in_ok-heard.ensures.saved;
    }
