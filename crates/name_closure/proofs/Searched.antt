-- A search among pairs with ascending keys misses none of them.
use Rattle.std.proofs.Common.{◌<◌, ◌∷◌, ◌≡◌, ◌⊎◌}
use Rattle.name_closure.proofs.Prelude.{[], AllByRecursion, and_from, ap, arith, below_all, cases_lt, comparisons_ascend, Equal, Err, get_or, Greater, inl, inr, is_lt, is_sorted, IsAmong, IsBinarySearchResult, IsStrictlySortedBy, IsTotalOrder, IsTrue, keys_of, length, Less, List, Ordering, refl, suc, sym, tied_itself, ℕ, ◌∙◌}

module _ {N U : Type 0} (cmp : N → N → Ordering) where
  below_keys : (x : N) (es : List (N × U)) → AllByRecursion (λ y. cmp x y ≡ Less) (keys_of es) → IsTrue (below_all cmp x es)
  below_keys x [] h = refl
  below_keys x (e ∷ es) h = and_from _ _ (ap is_lt h.0) (below_keys x es h.1)

  -- pairs with ascending keys are sorted
  sorted_by_keys : (es : List (N × U)) → IsStrictlySortedBy cmp (keys_of es) → IsTrue (is_sorted cmp es)
  unfolding IsStrictlySortedBy
  sorted_by_keys [] h = refl
  sorted_by_keys (e ∷ es) h = and_from _ _ (below_keys e.0 es h.0) (sorted_by_keys es h.1)

  -- the pair of a key has a position
  place_of : (n : N) (es : List (N × U)) → IsAmong n (keys_of es) → (j : ℕ) × (d : N × U) × (j < length es) × ((get_or es j d).0 ≡ n)
  place_of n [] h = absurd h
  place_of n (e ∷ es) (inl k) = (0, e, omega arith, k)
  place_of n (e ∷ es) (inr h) = let p = place_of n es h in (suc p.0, p.1, omega (arith, p.2), p.3)

  pub not_missed : IsTotalOrder cmp → (n : N) (es : List (N × U)) (i : ℕ) → IsStrictlySortedBy cmp (keys_of es)
      → IsBinarySearchResult (λ (e : N × U). cmp e.0 n) es (Err i) → IsAmong n (keys_of es) → ⊥
  not_missed total n es i ascending found h =
      let parted = found (comparisons_ascend cmp total n es (sorted_by_keys es ascending)) in
      let at = place_of n es h in
      by (get_or es at.0 at.1).0 at.3 (elim (cases_lt at.0 i) [
        | inl before ↦ inl (parted.0 at.0 at.1 (omega arith) before)
        | inr after ↦ inr (parted.1 at.0 at.1 after at.2)
      ])
    where
      by : (key : N) → key ≡ n → (cmp key n ≡ Less) ⊎ (cmp key n ≡ Greater) → ⊥
      by key e (inl k) = let tied : Equal ≡ Less = sym (tied_itself total n) ∙ sym (ap (λ m. cmp m n) e) ∙ k in cc
      by key e (inr k) = let tied : Equal ≡ Greater = sym (tied_itself total n) ∙ sym (ap (λ m. cmp m n) e) ∙ k in cc
