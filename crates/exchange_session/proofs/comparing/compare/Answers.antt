use Rattle.exchange_session.proofs.Prelude.{ap, ArePartsOf, print, Range, subst, sym, ◌∙◌}
use Rattle.exchange_session.specs.declared.messages.{RangeAsk.{RangeAsk}}
use Rattle.exchange_session.proofs.Telling.{all_own, ask_covers, ask_stays, parts_cover, parts_stay}
use Rattle.exchange_session.proofs.comparing.compare.Goals as goal

pub returns-then-here-le-FEW-clause-covered : goal.returns-then-here-le-FEW-clause-covered
returns-then-here-le-FEW-clause-covered c = λ unequal.
    rw (c.in_ok-push.ensures.items, c.none-compared.ensures.asks, c.none-compared.ensures.prints) (ask_covers c.args.told.range c.in_ok-ask_for.field-0 (ap (λ (ask : RangeAsk). ask.range) c.in_ok-ask_for.ensures.ask ∙ c.into_range.ensures.range))

pub returns-clause-prints : goal.returns-clause-prints
returns-clause-prints c = rw c.in_ok-compared.ensures.prints (all_own c.args.seed c.args.own.now c.in_ok-ranges.ranges.items)

pub returns-clause-covered : goal.returns-clause-covered
returns-clause-covered c = λ unequal.
    let are = subst (λ (r : Range). ArePartsOf r c.in_ok-ranges.ranges.items) c.into_range-2.ensures.range c.in_ok-ranges.ensures.parts in
    rw c.in_ok-compared.ensures.prints (parts_cover c.args.seed c.args.own.now c.args.told.range c.in_ok-ranges.ranges.items c.none-compared.result.asks.items are)

pub returns-then-here-le-FEW-clause-stays : goal.returns-then-here-le-FEW-clause-stays
returns-then-here-le-FEW-clause-stays c =
    let asked = ap (λ (ask : RangeAsk). ask.range) c.in_ok-ask_for.ensures.ask ∙ c.into_range.ensures.range in
    rw (c.in_ok-push.ensures.items, c.none-compared.ensures.asks, c.none-compared.ensures.prints) (ask_stays c.args.seed c.args.own.now c.args.told c.in_ok-ask_for.field-0 asked
    (λ same. c.if-print-told.false (c.print.ensures.print ∙ ap (print c.args.seed) c.within-here.ensures.within ∙ sym same)))

pub returns-clause-stays : goal.returns-clause-stays
returns-clause-stays c =
    let are = subst (λ (r : Range). ArePartsOf r c.in_ok-ranges.ranges.items) c.into_range-2.ensures.range c.in_ok-ranges.ensures.parts in
    rw (c.in_ok-compared.ensures.prints, c.none-compared.ensures.asks) (parts_stay c.args.seed c.args.own.now c.args.told c.in_ok-ranges.ranges.items are
    (λ same. c.if-print-told.false (c.print.ensures.print ∙ ap (print c.args.seed) c.within-here.ensures.within ∙ sym same)))
