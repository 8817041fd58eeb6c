use Rattle.std.proofs.Common.{◌∷◌}
use Rattle.chunked_pairs.proofs.Prelude.{[], AreChained, chained_after, subst, sym, viewed, ◌∙◌}
use Rattle.chunked_pairs.proofs.cursors.Pairs.next_of_any.Goals as goal

pub invariant_of-self : goal.invariant_of-self
invariant_of-self g c =
    let ms = viewed c.self.inside.more.now in
    chained_after g.K.Ord.cmp g.met.K.Ord.total (c.in-Some.pair.now ∷ []) c.in-Some.left.now ms (subst (λ l. AreChained g.K.Ord.cmp l ms) c.in-Some.ensures.cases.0 c.self.invariant)

pub invariant_of-self-2 : goal.invariant_of-self-2
invariant_of-self-2 g c =
    let ms = viewed c.in_ok-behind.more.now in
    let behind = subst (λ ns. AreChained g.K.Ord.cmp c.self.inside.left.now (viewed ns)) c.in_ok-behind.ensures.cases.0 c.self.invariant in
    chained_after g.K.Ord.cmp g.met.K.Ord.total (c.in_ok-pair.pair.now ∷ []) c.in_ok-pair.left.now ms (subst (λ l. AreChained g.K.Ord.cmp l ms) (sym c.deref.ensures.value ∙ c.in_ok-pair.ensures.cases.0) behind.2)
