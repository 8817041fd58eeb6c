-- Nodes without those that are found, sorted, without repeats.
use Rattle.std.proofs.Common.{◌||◌, ◌↔◌, ◌∷◌, ◌≡◌, ◌≤◌, ◌⊎◌}
use Rattle.name_closure.proofs.Prelude.{[], among_from_contains, ap, AreNew, arith, Bool, cond, Contains-dedup, Contains-from_dedup, Contains-permutation, contains_from_among, dedup, Equal, false, filter, inl, inr, is_at, is_eq, is_equal, IsAmong, IsEquivalence, IsPermutation, IsPermutation-sym, IsSorted, IsStrictlySortedBy, IsStrictlySortedBy-dedup, IsTotalOrder, length, List, list_any, not, Ordering, refl, subst, sym, tied_itself, true, true≢false, ◌∙◌}

-- a list of at most one node is strictly ascending
pub few_ascend : {N : Type 0} (order : N → N → Ordering) (nodes : List N) → length nodes ≤ 1 → IsStrictlySortedBy order nodes
unfolding IsStrictlySortedBy
few_ascend order [] few = tt
few_ascend order (n ∷ []) few = (tt, tt)
few_ascend order (n ∷ m ∷ nodes) few = absurd (omega arith)

module _ {N : Type 0} (order : N → N → Ordering) (total : IsTotalOrder order) (exact : (x y : N) → order x y ≡ Equal → x ≡ y) where
  -- a search by comparison finds exactly the members
  pub found_by : (k : N) (ks : List N) → list_any (is_at (order k)) ks ≡ true → IsAmong k ks
  found_by k [] h = cc (h)
  found_by k (x ∷ xs) h = by (is_at (order k) x) refl h (found_by k xs)
    where
      by : (b : Bool) → is_at (order k) x ≡ b → (b || list_any (is_at (order k)) xs) ≡ true → (list_any (is_at (order k)) xs ≡ true → IsAmong k xs) → IsAmong k (x ∷ xs)
      by true e g more = inl (sym (exact k x (is_equal (order k x) e)))
      by false e g more = inr (more g)

  pub found_there : (k : N) (ks : List N) → IsAmong k ks → list_any (is_at (order k)) ks ≡ true
  found_there k [] h = absurd h
  found_there k (x ∷ xs) (inl e) = first_found (is_at (order k) x) (ap is_eq (ap (λ z. order k z) e ∙ tied_itself total k)) (list_any (is_at (order k)) xs)
    where
      first_found : (b : Bool) → b ≡ true → (c : Bool) → (b || c) ≡ true
      first_found true e c = refl
      first_found false e c = cc (e)
  found_there k (x ∷ xs) (inr h) = later_found (is_at (order k) x) (list_any (is_at (order k)) xs) (found_there k xs h)
    where
      later_found : (b c : Bool) → c ≡ true → (b || c) ≡ true
      later_found true c e = refl
      later_found false c e = e

  -- those of the nodes that aren't found
  abbrev pub unknown : List N → List N → List N
  unknown found = filter (λ n. not (list_any (is_at (order n)) found))

  unknown_apart : (found ns : List N) (n : N) → IsAmong n (unknown found ns) → ¬ IsAmong n found
  unknown_apart found [] n h a = h
  unknown_apart found (x ∷ xs) n h a = by (list_any (is_at (order x)) found) refl h (λ o. unknown_apart found xs n o a)
    where
      by : (b : Bool) → list_any (is_at (order x)) found ≡ b → IsAmong n (cond (not b) (x ∷ unknown found xs) (unknown found xs)) → ¬ IsAmong n (unknown found xs) → ⊥
      by true e o later = later o
      by false e (inl is) later = true≢false (sym (found_there x found (subst (λ v. IsAmong v found) (sym is) a)) ∙ e)
      by false e (inr o) later = later o

  unknown_origin : (found ns : List N) (n : N) → IsAmong n (unknown found ns) → IsAmong n ns
  unknown_origin found [] n h = h
  unknown_origin found (x ∷ xs) n h = by (list_any (is_at (order x)) found) h (unknown_origin found xs n)
    where
      by : (b : Bool) → IsAmong n (cond (not b) (x ∷ unknown found xs) (unknown found xs)) → (IsAmong n (unknown found xs) → IsAmong n xs) → IsAmong n (x ∷ xs)
      by true o more = inr (more o)
      by false (inl is) more = inl is
      by false (inr o) more = inr (more o)

  unknown_took : (found ns : List N) (n : N) → IsAmong n ns → IsAmong n found ⊎ IsAmong n (unknown found ns)
  unknown_took found [] n h = absurd h
  unknown_took found (x ∷ xs) n h = by (list_any (is_at (order x)) found) refl h (unknown_took found xs n)
    where
      after : (b : Bool) → IsAmong n found ⊎ IsAmong n (unknown found xs) → IsAmong n found ⊎ IsAmong n (cond (not b) (x ∷ unknown found xs) (unknown found xs))
      after b (inl a) = inl a
      after true (inr a) = inr a
      after false (inr a) = inr (inr a)

      by : (b : Bool) → list_any (is_at (order x)) found ≡ b → IsAmong n (x ∷ xs) → (IsAmong n xs → IsAmong n found ⊎ IsAmong n (unknown found xs))
          → IsAmong n found ⊎ IsAmong n (cond (not b) (x ∷ unknown found xs) (unknown found xs))
      by true e (inl is) more = inl (subst (λ v. IsAmong v found) is (found_by x found e))
      by false e (inl is) more = inr (inl is)
      by b e (inr o) more = after b (more o)

  -- nodes that were sorted, and then rid of repeats
  module _ (E : N → N → Bool) (same : IsEquivalence E) (ties : (x y : N) → E x y ≡ is_eq (order x y)) (nodes sorted once : List N)
      (permutation : IsPermutation nodes sorted) (ascending : IsSorted order sorted) (is : once ≡ dedup E sorted) where
    moved : (xs ys : List N) (n : N) → IsPermutation xs ys → IsAmong n xs → IsAmong n ys
    moved xs ys n p h = among_from_contains n ys (Contains-permutation xs ys n p (contains_from_among n xs h))

    pub once_ascends : IsStrictlySortedBy order once
    once_ascends = subst (IsStrictlySortedBy order) (sym is) (IsStrictlySortedBy-dedup total ties sorted ascending)

    pub once_back : (n : N) → IsAmong n once → IsAmong n nodes
    once_back n h =
        let one = among_from_contains n sorted (Contains-from_dedup E sorted n (contains_from_among n (dedup E sorted) (subst (IsAmong n) is h))) in
        moved sorted nodes n (IsPermutation-sym nodes sorted permutation) one

    pub once_there : (n : N) → IsAmong n nodes → IsAmong n once
    once_there n h =
        let kept = moved nodes sorted n permutation h in
        subst (IsAmong n) (sym is) (among_from_contains n (dedup E sorted) (Contains-dedup same (λ x y e. exact x y (is_equal _ (sym (ties x y) ∙ e))) sorted n (contains_from_among n sorted kept)))

  -- the nodes that aren't found, each once, in ascending order
  pub news_are : (found nodes left fresh : List N) → left ≡ unknown found nodes → IsStrictlySortedBy order fresh → ((n : N) → IsAmong n fresh ↔ IsAmong n left) → AreNew order found nodes fresh
  news_are found nodes left fresh unfound ascending members = record {
    ascending = ascending;
    apart = λ n h. unknown_apart found nodes n (back n h);
    origin = λ n h. unknown_origin found nodes n (back n h);
    took = λ n h. elim (unknown_took found nodes n h) [ inl a ↦ inl a | inr b ↦ inr ((members n).1 (subst (IsAmong n) (sym unfound) b)) ];
  }
    where
      back : (n : N) → IsAmong n fresh → IsAmong n (unknown found nodes)
      back n h = subst (IsAmong n) unfound ((members n).0 h)
