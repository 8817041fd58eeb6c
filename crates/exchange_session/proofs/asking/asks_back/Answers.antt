use Rattle.exchange_session.proofs.Prelude.{All, All-append, digest_of, List, PlaceParts, subst, versions_of}
use Rattle.exchange_session.proofs.Pursuing.{all_back, all_taken, newer_more, none_more}
use Rattle.exchange_session.specs.Told.{IsAskedAt, IsAskedBack, IsNewerAt, IsNothingNew, IsOwnAsk}
use Rattle.exchange_session.specs.declared.messages.RangeAsk.{RangeAsk}
use Rattle.exchange_session.proofs.asking.asks_back.Goals as goal

pub loop-ask-preserved : goal.loop-ask-preserved
loop-ask-preserved c =
    let own = digest_of c.args.node.now.store in
    let before = c.loop-ask.back.items in
    let more = c.in_ok-more.more.items in
    let yielded = c.loop-ask.yielded in
    let known = c.loop-ask.invariant in
    let new = c.in_ok-more.ensures in
    record {
      own = rw c.in_ok-append.ensures.items (All-append (IsOwnAsk (versions_of c.args.node.now.store)) before more known.own new.own);
      back = rw c.in_ok-append.ensures.items (all_back own before more yielded c.in-Some.ask known.back new.all);
      stays = rw c.in_ok-append.ensures.items (newer_more own before more yielded c.in-Some.ask known.stays new.stays);
      none = rw c.in_ok-append.ensures.items (none_more (IsNothingNew own) before more yielded c.in-Some.ask known.none new.none);
    }

pub returns-clause-all : goal.returns-clause-all
returns-clause-all c =
    let all = all_taken c.into_iter-ask-iterator.result c.args.asks.items c.loop-ask.yielded c.loop-ask.ask-iterator c.into_iter-ask-iterator.ensures.into_iter_gives.0 c.loop-ask.yielded_by c.in-None.ensures.steps.0 in
    subst (λ (l : List RangeAsk). All (IsAskedBack (digest_of c.args.node.now.store) c.loop-ask.back.items) l) all c.loop-ask.invariant.back

pub returns-clause-stays : goal.returns-clause-stays
returns-clause-stays c =
    let all = all_taken c.into_iter-ask-iterator.result c.args.asks.items c.loop-ask.yielded c.loop-ask.ask-iterator c.into_iter-ask-iterator.ensures.into_iter_gives.0 c.loop-ask.yielded_by c.in-None.ensures.steps.0 in
    subst (λ (l : List RangeAsk). (p : PlaceParts) → IsAskedAt c.loop-ask.back.items p → IsNewerAt (digest_of c.args.node.now.store) l p) all c.loop-ask.invariant.stays
