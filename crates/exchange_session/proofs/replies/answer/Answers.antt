use Rattle.exchange_session.proofs.Prelude.{All, All-append, ap, digest_of, List, PlaceParts, refl, subst, Version, versions_of, ◌∙◌}
use Rattle.exchange_session.proofs.Pursuing.{asked_behind, pursued_wider, stays_wider}
use Rattle.exchange_session.specs.Told.{IsOwnAsk, IsPursued, StaysUnequal}
use Rattle.exchange_session.proofs.replies.answer.Goals as goal

pub returns-clause-asks : goal.returns-clause-asks
returns-clause-asks c =
    let here = versions_of c.args.node.now.store in
    let compared = c.in_ok-compared.compared.asks.items in
    let same = c.deref.ensures.value ∙ c.in_ok-own.ensures.versions ∙ ap versions_of c.store.ensures.store in
    let first = subst (λ (l : List (PlaceParts × Version)). All (IsOwnAsk l) compared) same c.in_ok-compared.ensures.asks in
    rw (c.in_ok-append.ensures.items, c.into_parts-prints.ensures.asks) (All-append (IsOwnAsk here) compared c.in_ok-back.back.items first c.in_ok-back.ensures.own)

pub returns-clause-pursued : goal.returns-clause-pursued
returns-clause-pursued c =
    let here = versions_of c.args.node.now.store in
    let prints = c.in_ok-compared.compared.prints.items in
    let asks = c.in_ok-compared.compared.asks.items in
    let same = c.deref.ensures.value ∙ c.in_ok-own.ensures.versions ∙ ap versions_of c.store.ensures.store in
    let told = c.in_ok-compared.ensures.covered in
    let first = subst (λ (l : List (PlaceParts × Version)). All (IsPursued c.args.seed l prints asks) c.args.prints.items) same told in
    rw (c.in_ok-append.ensures.items, c.into_parts-prints.ensures.prints, c.into_parts-prints.ensures.asks) (pursued_wider c.args.seed here prints asks c.in_ok-back.back.items c.args.prints.items first)

pub returns-clause-asked_back : goal.returns-clause-asked_back
returns-clause-asked_back c =
    let all = c.in_ok-back.ensures.all in
    rw (c.in_ok-append.ensures.items, c.into_parts-prints.ensures.asks) (asked_behind (digest_of c.args.node.now.store) c.in_ok-compared.compared.asks.items c.in_ok-back.back.items c.args.asks.items all)

pub returns-clause-agreed : goal.returns-clause-agreed
returns-clause-agreed c all =
    let told = c.in_ok-compared.ensures.agreed (rw (c.deref.ensures.value, c.in_ok-own.ensures.versions, c.store.ensures.store) all) in
    rw (c.into_parts-prints.ensures.prints, told.0) refl

pub returns-clause-quiet : goal.returns-clause-quiet
returns-clause-quiet c all none =
    let told = c.in_ok-compared.ensures.agreed (rw (c.deref.ensures.value, c.in_ok-own.ensures.versions, c.store.ensures.store) all) in
    let back = c.in_ok-back.ensures.none none in
    rw (c.in_ok-append.ensures.items, c.into_parts-prints.ensures.asks, told.1, back) refl

pub returns-clause-stays : goal.returns-clause-stays
returns-clause-stays c =
    let own = digest_of c.args.node.now.store in
    let prints = c.in_ok-compared.compared.prints.items in
    let asks = c.in_ok-compared.compared.asks.items in
    let same = c.deref.ensures.value ∙ c.in_ok-own.ensures.versions ∙ ap versions_of c.store.ensures.store in
    let told = c.in_ok-compared.ensures.stays in
    let newer = c.in_ok-back.ensures.stays in
    let here = subst (λ (l : List (PlaceParts × Version)). StaysUnequal c.args.seed l c.args.prints.items prints asks) same told in
    rw (c.in_ok-append.ensures.items, c.into_parts-prints.ensures.prints, c.into_parts-prints.ensures.asks) (stays_wider c.args.seed own c.args.prints.items prints asks c.in_ok-back.back.items c.args.asks.items here newer)
