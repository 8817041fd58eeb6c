use Rattle.std.proofs.Common.{◌∷◌, ◌≡◌}
use Rattle.chunked_pairs.proofs.Prelude.{[], append-nil, AreChained, arith, chained_after, eqb-true, length, List, refl, subst, sym, viewed, ◌∙◌}
use Rattle.chunked_pairs.proofs.cursors.Pairs.next_run.Goals as goal

none : {A : Type 0} (xs : List A) → length xs ≡ 0 → xs ≡ []
none [] e = refl
none (x ∷ xs) e = absurd (omega (arith, e))

pub invariant_of-self : goal.invariant_of-self
invariant_of-self g c =
    let left = c.self.inside.left.now in
    let ms = viewed c.self.inside.more.now in
    chained_after g.K.Ord.cmp g.met.K.Ord.total left [] ms (subst (λ l. AreChained g.K.Ord.cmp l ms) (sym (append-nil left)) c.self.invariant)

pub invariant_of-self-2 : goal.invariant_of-self-2
invariant_of-self-2 g c =
    let ms = viewed c.in_ok-behind.more.now in
    let run = c.in_ok-behind.behind.now.1.items in
    let empty : c.self.inside.left.now ≡ [] = none c.self.inside.left.now (eqb-true (length c.self.inside.left.now) 0 (sym c.is_empty.ensures ∙ c.if-not-is_empty.false)) in
    let behind = subst (λ ns. AreChained g.K.Ord.cmp c.self.inside.left.now (viewed ns)) c.in_ok-behind.ensures.cases.0 c.self.invariant in
    subst (λ l. AreChained g.K.Ord.cmp l ms) (sym empty)
    (chained_after g.K.Ord.cmp g.met.K.Ord.total run [] ms (subst (λ l. AreChained g.K.Ord.cmp l ms) (sym (append-nil run)) behind.2))
