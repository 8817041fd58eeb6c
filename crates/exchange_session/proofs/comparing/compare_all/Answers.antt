use Rattle.exchange_session.proofs.Prelude.{All-append, List, subst}
use Rattle.exchange_session.proofs.Pursuing.{agreed_more, all_taken, pursued_more, stays_more}
use Rattle.exchange_session.specs.Told.{IsOwnAsk, IsOwnPrint, StaysUnequal}
use Rattle.exchange_session.specs.declared.messages.RangePrint.{RangePrint}
use Rattle.exchange_session.proofs.comparing.compare_all.Goals as goal

pub loop-print-preserved : goal.loop-print-preserved
loop-print-preserved c =
    let seed = c.args.seed in
    let own = c.args.own.now in
    let before = c.loop-print.all in
    let more = c.in_ok-compared.compared in
    let known = c.loop-print.invariant in
    record {
      prints = rw c.in_ok-append.ensures.items (All-append (IsOwnPrint seed own) before.prints.items more.prints.items known.prints c.in_ok-compared.ensures.prints);
      asks = rw c.in_ok-append-2.ensures.items (All-append (IsOwnAsk own) before.asks.items more.asks.items known.asks c.in_ok-compared.ensures.asks);
      pursued = rw (c.in_ok-append.ensures.items, c.in_ok-append-2.ensures.items) (pursued_more seed own before.prints.items more.prints.items before.asks.items more.asks.items c.loop-print.yielded c.in-Some.print known.pursued c.in_ok-compared.ensures.covered);
      stays = rw (c.in_ok-append.ensures.items, c.in_ok-append-2.ensures.items) (stays_more seed own before.prints.items more.prints.items before.asks.items more.asks.items c.loop-print.yielded c.in-Some.print known.stays c.in_ok-compared.ensures.stays);
      agreed = rw (c.in_ok-append.ensures.items, c.in_ok-append-2.ensures.items) (agreed_more (IsOwnPrint seed own) before.prints.items more.prints.items before.asks.items more.asks.items c.loop-print.yielded c.in-Some.print known.agreed c.in_ok-compared.ensures.agreed);
    }

pub returns-clause-stays : goal.returns-clause-stays
returns-clause-stays c =
    let all = all_taken c.into_iter-print-iterator.result c.args.told.items c.loop-print.yielded c.loop-print.print-iterator c.into_iter-print-iterator.ensures.into_iter_gives.0 c.loop-print.yielded_by c.in-None.ensures.steps.0 in
    subst (λ (l : List RangePrint). StaysUnequal c.args.seed c.args.own.now l c.loop-print.all.prints.items c.loop-print.all.asks.items) all c.loop-print.invariant.stays
