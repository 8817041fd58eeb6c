use Rattle.std.proofs.Common.{◌∷◌}
use Rattle.chunked_pairs.proofs.Prelude.{[], AreChained, chained_after, subst, viewed}
use Rattle.chunked_pairs.proofs.cursors.Pairs.next.Goals as goal

pub invariant_of-self : goal.invariant_of-self
invariant_of-self g c =
    let ms = viewed c.self.inside.more.now in
    chained_after g.K.Ord.cmp g.met.K.Ord.total (c.in-Some.pair.now ∷ []) c.in-Some.left.now ms (subst (λ l. AreChained g.K.Ord.cmp l ms) c.in-Some.ensures.cases.0 c.self.invariant)
