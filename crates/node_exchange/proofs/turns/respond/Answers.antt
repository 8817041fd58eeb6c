use Rattle.std.proofs.Common.{◌≡◌, ◌++◌, ◌∙◌, [], List, rules, Some, subst, sym}
use Rattle.edit_sums.specs.Sums.{EntryMap}
use Rattle.edit_log.specs.declared.logs.{LogHead.{LogHead}, LogPeer.{LogPeer}}
use Rattle.exchange_bytes.specs.declared.frames.Hello.{Hello}
use Rattle.exchange_session.specs.Standing.{Said}
use Rattle.node_exchange.specs.Hearing.{Hears}
use Rattle.std.specs.Prelude.{IsPermutation}
use Rattle.node_meetings.specs.Meeting.{IsHelloOf, MayMeet, news_of}
use Rattle.node_exchange.specs.Talks.{Notes, Responds, Talks, Written}
use Rattle.node_exchange.specs.LaterLaws.{later_then}
use Rattle.node_exchange.proofs.Talking.{both_ok, responded, notes_kept}
use Rattle.node_exchange.proofs.turns.respond.Goals as goal

pub returns-in_err-heard-clause-later : goal.returns-in_err-heard-clause-later
returns-in_err-heard-clause-later g c =
    let log = g.L.EditLog in
    later_then log.is_honest log.head log.may_leave c.args.node.now c.known_peers.new.node c.hear.new.node c.known_peers.ensures.later c.hear.ensures.later

pub returns-in_err-note-clause-later : goal.returns-in_err-note-clause-later
returns-in_err-note-clause-later g c =
    let log = g.L.EditLog in
    later_then log.is_honest log.head log.may_leave c.args.node.now c.known_peers.new.node c.note.new.node c.known_peers.ensures.later
    (later_then log.is_honest log.head log.may_leave c.known_peers.new.node c.hear.new.node c.note.new.node c.hear.ensures.later c.note.ensures.later)

pub returns-in_err-own-clause-later : goal.returns-in_err-own-clause-later
returns-in_err-own-clause-later g c =
    let log = g.L.EditLog in
    later_then log.is_honest log.head log.may_leave c.args.node.now c.known_peers.new.node c.note.new.node c.known_peers.ensures.later
    (later_then log.is_honest log.head log.may_leave c.known_peers.new.node c.hear.new.node c.note.new.node c.hear.ensures.later c.note.ensures.later)

pub returns-in-Err-clause-away : goal.returns-in-Err-clause-away
returns-in-Err-clause-away g c = λ taken.
    let log = g.L.EditLog in
    let head = log.head c.args.node.now.log in
    let known = c.in_ok-known.known.items in
    let own = c.in_ok-own-in-Err.own in
    let refused = c.in-Err.ensures.taken (search rules) in
    let is_own : IsHelloOf head known 0 own =
    subst (λ (h : LogHead). IsHelloOf h known 0 own) c.head-head.ensures.head (subst (λ (k : List LogPeer). IsHelloOf c.head-head.result k 0 own) c.deref-in-Err.ensures.value c.in_ok-own-in-Err.ensures.own) in
    record {
      known = known;
      knew = c.in_ok-known.ensures.latest;
      own = own;
      is_own = is_own;
      wrote = subst (λ (m : Said). Written (Some own) m (g.K.Sink.contents c.args.sink.now) (g.K.Sink.contents c.say.new.sink)) c.nothing.ensures.nothing c.in_ok-say-in-Err.ensures.written;
      first = c.in_ok-first.first;
      met = refused.0;
      says = refused.1.0;
      may_not = λ may. refused.1.1 (subst (λ (h : LogHead). MayMeet h c.deref.result.now refused.0) (sym c.head-head.ensures.head) (subst (λ (k : List LogPeer). MayMeet head k refused.0) (sym c.deref.ensures.value) may));
      read = c.in_ok-first.ensures.read;
    }

pub returns-clause-later : goal.returns-clause-later
returns-clause-later g c =
    let log = g.L.EditLog in
    later_then log.is_honest log.head log.may_leave c.args.node.now c.known_peers.new.node c.converse.new.node c.known_peers.ensures.later
    (later_then log.is_honest log.head log.may_leave c.known_peers.new.node c.hear.new.node c.converse.new.node c.hear.ensures.later
    (later_then log.is_honest log.head log.may_leave c.hear.new.node c.note.new.node c.converse.new.node c.note.ensures.later c.converse.ensures.later))

pub returns-clause-responds : goal.returns-clause-responds
returns-clause-responds g c =
    let log = g.L.EditLog in
    let head = log.head c.args.node.now.log in
    let known = c.in_ok-known.known.items in
    let from = c.args.node.now.replica.store in
    let mid = c.hear.new.node.replica.store in
    let met = c.in-Ok.met.now in
    let own = c.in_ok-own.own in
    let prints = c.in_ok-heard.heard.prints.items in
    let asks = c.in_ok-heard.heard.asks.items in
    let Honest = log.is_honest c.converse.new.node.log in
    let Noted = λ (k : List LogPeer) (h : Hello). Honest → Notes head k h c.args.time (log.peers c.args.node.now.log) (log.peers c.converse.new.node.log) in
    let is_own : IsHelloOf head known met.seed own =
    subst (λ (h : LogHead). IsHelloOf h known met.seed own) c.head-head.ensures.head (subst (λ (k : List LogPeer). IsHelloOf c.head-head.result k met.seed own) c.deref-4.ensures.value c.in_ok-own.ensures.own) in
    let may : MayMeet head known met =
    subst (λ (h : LogHead). MayMeet h known met) c.head-head.ensures.head (subst (λ (k : List LogPeer). MayMeet c.head-head.result k met) c.deref.ensures.value c.in-Ok.ensures.may) in
    let read_store : c.known_peers.new.node.replica.store ≡ from = λ i. (c.known_peers.ensures.replica i).store in
    let hears : Hears c.in_ok-first.first from mid prints asks (g.S.Source.remaining c.read_frame.new.source) (g.S.Source.remaining c.hear.new.source) =
    subst (λ (s : EntryMap). Hears c.in_ok-first.first s mid prints asks (g.S.Source.remaining c.read_frame.new.source) (g.S.Source.remaining c.hear.new.source)) read_store c.in_ok-heard.ensures.heard in
    let noted_store : c.note.new.node.replica.store ≡ mid = λ i. (c.note.ensures.replica i).store in
    both_ok c.converse.result
    (Talks met.seed c.note.new.node.replica.store (record { prints = prints; asks = asks; pieces = [] }) (Some own) c.converse.new.node.replica.store (g.K.Sink.contents c.args.sink.now) (g.K.Sink.contents c.converse.new.sink) (g.S.Source.remaining c.hear.new.source) (g.S.Source.remaining c.converse.new.source))
    Honest
    (log.peers c.converse.new.node.log ≡ log.peers c.note.new.node.log)
    (Responds head from c.converse.new.node.replica.store Noted (record {
      written_before = g.K.Sink.contents c.args.sink.now;
      written = g.K.Sink.contents c.converse.new.sink;
      read_before = g.S.Source.remaining c.args.source.now;
      read = g.S.Source.remaining c.converse.new.source;
    }))
    c.converse.ensures.talks c.converse.ensures.peers
    (λ talks kept.
    let notes : Noted known met = λ h.
    let noted = c.converse.ensures.later.honest h in
    let heard = c.note.ensures.later.honest noted in
    let read = c.hear.ensures.later.honest heard in
    let all : IsPermutation (log.peers c.hear.new.node.log ++ news_of c.head-head.result c.deref-2.result.now met c.args.time) (log.peers c.note.new.node.log) =
    subst (λ (l : List LogPeer). IsPermutation (log.peers c.hear.new.node.log ++ l) (log.peers c.note.new.node.log)) (c.deref-3.ensures.value ∙ c.in_ok-news.ensures.news) (c.in_ok-note.ensures.noted noted) in
    notes_kept head c.head-head.result known c.deref-2.result.now met c.args.time (log.peers c.args.node.now.log) (log.peers c.hear.new.node.log) (log.peers c.note.new.node.log) (log.peers c.converse.new.node.log)
    (c.in_ok-known.ensures.latest read) (c.in_ok-heard.ensures.peers heard ∙ c.in_ok-known.ensures.peers read) c.head-head.ensures.head c.deref-2.ensures.value all (kept h) in
    let rest : Talks met.seed mid (record { prints = prints; asks = asks; pieces = [] }) (Some own) c.converse.new.node.replica.store (g.K.Sink.contents c.args.sink.now) (g.K.Sink.contents c.converse.new.sink) (g.S.Source.remaining c.hear.new.source) (g.S.Source.remaining c.converse.new.source) =
    subst (λ (s : EntryMap). Talks met.seed s (record { prints = prints; asks = asks; pieces = [] }) (Some own) c.converse.new.node.replica.store (g.K.Sink.contents c.args.sink.now) (g.K.Sink.contents c.converse.new.sink) (g.S.Source.remaining c.hear.new.source) (g.S.Source.remaining c.converse.new.source)) noted_store talks in
    responded head from mid c.converse.new.node.replica.store Noted known own met c.in_ok-first.first prints asks
    (g.K.Sink.contents c.args.sink.now) (g.K.Sink.contents c.converse.new.sink) (g.S.Source.remaining c.args.source.now) (g.S.Source.remaining c.read_frame.new.source) (g.S.Source.remaining c.hear.new.source) (g.S.Source.remaining c.converse.new.source)
    is_own may notes c.in-Ok.ensures.says c.in_ok-first.ensures.read hears rest)
