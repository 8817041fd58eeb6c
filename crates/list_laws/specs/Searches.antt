-- Pairs sorted by key, compared with one key: the facts that a binary search rests on.
-- Source: this project's own.
use Rattle.std.proofs.Common.{◌<◌, ◌∷◌, ◌≡◌, ◌≤◌}
use Rattle.list_laws.specs.Prelude.{[], and_parts, ap, arith, below_all, Equal, get_or, Greater, is_sorted, IsNonDecreasingBy, IsTotalOrder, IsTrue, length, Less, List, Ordering, ordering_index, ordering_reverse, refl, suc, sym, zero, ℕ, ◌∙◌}
use Rattle.list_laws.specs.Orderings.{is_less, turned}

-- a key below all pairs is below each of them
pub below_at : {K V : Type 0} (R : K → K → Ordering) (x : K) (es : List (K × V)) (j : ℕ) (d : K × V)
    → IsTrue (below_all R x es) → j < length es → R x (get_or es j d).0 ≡ Less
below_at R x [] j d h lt = absurd (omega arith)
below_at R x (e ∷ es) zero d h lt = is_less _ (and_parts _ _ h).0
below_at R x (e ∷ es) (suc j) d h lt = below_at R x es j d (and_parts _ _ h).1 (omega arith)

module _ {K : Type 0} (R : K → K → Ordering) (o : IsTotalOrder R) (k : K) where
  -- a key below one that equals k is below k
  pub above_lesser : (x y : K) → R x y ≡ Less → R y k ≡ Equal → R k x ≡ Greater
  above_lesser x y h e = sym (o.congr y k x e) ∙ turned R o x y Less h

  index_by : (x y : K) → R x y ≡ Less → (r : Ordering) → R y k ≡ r → ordering_index (R x k) ≤ ordering_index r
  index_by x y h Less e = let p = ap ordering_index (o.trans x y k h e) in omega arith
  index_by x y h Equal e =
      let p = ap ordering_index (o.antisymm x k ∙ ap ordering_reverse (above_lesser x y h e)) in
      omega arith
  index_by x y h Greater e = index_small (R x k)
    where
      index_small : (r : Ordering) → ordering_index r ≤ 2
      index_small Less = omega arith
      index_small Equal = omega arith
      index_small Greater = omega arith

-- along sorted pairs, the results of comparing with one key never decrease
pub comparisons_ascend : {K V : Type 0} (R : K → K → Ordering) (o : IsTotalOrder R) (k : K) (es : List (K × V))
    → IsTrue (is_sorted R es) → IsNonDecreasingBy (λ (e : K × V). ordering_index (R e.0 k)) es
comparisons_ascend R o k [] s i j d le lt = absurd (omega arith)
comparisons_ascend R o k (e ∷ es) s zero zero d le lt = omega arith
comparisons_ascend R o k (e ∷ es) s zero (suc j) d le lt =
    index_by R o k e.0 (get_or es j d).0 (below_at R e.0 es j d (and_parts _ _ s).0 (omega arith)) _ refl
comparisons_ascend R o k (e ∷ es) s (suc i) zero d le lt = absurd (omega arith)
comparisons_ascend R o k (e ∷ es) s (suc i) (suc j) d le lt = comparisons_ascend R o k es (and_parts _ _ s).1 i j d (omega arith) (omega arith)
