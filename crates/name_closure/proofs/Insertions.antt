-- A key is inserted among keys in order; the keys of two lists are united.
use Rattle.std.proofs.Common.{◌+◌, ◌∷◌, ◌≡◌}
use Rattle.name_closure.proofs.Prelude.{[], All, All-head, AllByRecursion, ap, AreJoined, arith, Equal, Greater, inl, inr, insert_key, IsAmong, IsStrictlySortedBy, IsTotalOrder, length, Less, List, match_ordering, not_in_tail, Ordering, ordering_reverse, put_kept, put_sound, put_there, refl, subst, suc, sym, ◌∙◌}

module _ {N : Type 0} (order : N → N → Ordering) where
  module _ (exact : (x y : N) → order x y ≡ Equal → x ≡ y) where
    -- a key is inserted among keys that lack it
    put_length : (k : N) (ks : List N) → ¬ IsAmong k ks → length (insert_key order ks k) ≡ suc (length ks)
    put_length k [] d = refl
    put_length k (x ∷ xs) d = by (order k x) refl (put_length k xs (λ h. d (inr h)))
      where
        by : (r : Ordering) → order k x ≡ r → length (insert_key order xs k) ≡ suc (length xs) → length (match_ordering r (k ∷ x ∷ xs) (x ∷ xs) (x ∷ insert_key order xs k)) ≡ suc (suc (length xs))
        by Less e more = refl
        by Equal e more = absurd (d (inl (sym (exact k x e))))
        by Greater e more = ap suc more

    -- the keys with one more are the union of both
    pub put_joins : (k : N) (ks : List N) → AreJoined ks (k ∷ []) (insert_key order ks k)
    put_joins k ks n = (
      λ h. elim (put_sound order k ks n h) [ inl a ↦ inl a | inr e ↦ inr (inl e) ],
      λ h. elim h [ inl a ↦ put_kept order k ks n a | inr o ↦ elim o [ inl e ↦ moved e | inr f ↦ absurd f ] ],
    )
      where
        moved : k ≡ n → IsAmong n (insert_key order ks k)
        moved e = rw (← e) (put_there order exact k ks)

  module _ (total : IsTotalOrder order) where
    all_put : (P : N → Type 0) (k : N) (ks : List N) → P k → AllByRecursion P ks → AllByRecursion P (insert_key order ks k)
    all_put P k [] p a = (p, tt)
    all_put P k (x ∷ xs) p a = by (order k x) (all_put P k xs p a.1)
      where
        by : (r : Ordering) → AllByRecursion P (insert_key order xs k) → AllByRecursion P (match_ordering r (k ∷ x ∷ xs) (x ∷ xs) (x ∷ insert_key order xs k))
        by Less more = (p, a)
        by Equal more = a
        by Greater more = (a.0, more)

    all_above : (k x : N) (ks : List N) → order k x ≡ Less → AllByRecursion (λ y. order x y ≡ Less) ks → AllByRecursion (λ y. order k y ≡ Less) ks
    all_above k x [] e a = tt
    all_above k x (y ∷ ys) e a = (total.trans k x y e a.0, all_above k x ys e a.1)

    put_ascending : (k : N) (ks : List N) → IsStrictlySortedBy order ks → IsStrictlySortedBy order (insert_key order ks k)
    unfolding IsStrictlySortedBy
    put_ascending k [] s = (tt, tt)
    put_ascending k (x ∷ xs) s = by (order k x) refl (put_ascending k xs s.1)
      where
        by : (r : Ordering) → order k x ≡ r → IsStrictlySortedBy order (insert_key order xs k) → IsStrictlySortedBy order (match_ordering r (k ∷ x ∷ xs) (x ∷ xs) (x ∷ insert_key order xs k))
        by Less e more = ((e, all_above k x xs e s.0), s)
        by Equal e more = s
        by Greater e more = (all_put (λ y. order x y ≡ Less) k xs (total.antisymm x k ∙ ap ordering_reverse e) s.0, more)

    module _ (exact : (x y : N) → order x y ≡ Equal → x ≡ y) where
      -- the keys of both lists, in order
      pub together : List N → List N → List N
      together [] ys = ys
      together (x ∷ xs) ys = insert_key order (together xs ys) x

      pub together_ascends : (xs ys : List N) → IsStrictlySortedBy order ys → IsStrictlySortedBy order (together xs ys)
      unfolding together
      together_ascends [] ys s = s
      together_ascends (x ∷ xs) ys s = put_ascending x (together xs ys) (together_ascends xs ys s)

      pub together_joins : (xs ys : List N) → AreJoined xs ys (together xs ys)
      unfolding together
      together_joins [] ys n = (λ h. inr h, λ h. elim h [ inl f ↦ absurd f | inr a ↦ a ])
      together_joins (x ∷ xs) ys n = (
        λ h. elim ((put_joins exact x (together xs ys) n).0 h) [
          | inl a ↦ elim ((together_joins xs ys n).0 a) [ inl b ↦ inl (inr b) | inr b ↦ inr b ]
          | inr o ↦ elim o [ inl e ↦ inl (inl e) | inr f ↦ absurd f ]
        ],
        λ h. (put_joins exact x (together xs ys) n).1 (elim h [
          | inl o ↦ elim o [ inl e ↦ inr (inl e) | inr a ↦ inl ((together_joins xs ys n).1 (inl a)) ]
          | inr b ↦ inl ((together_joins xs ys n).1 (inr b))
        ]),
      )

      -- as many as both have, where they have none in common
      pub length-together : (xs ys : List N) → IsStrictlySortedBy order xs → ((n : N) → IsAmong n xs → ¬ IsAmong n ys) → length (together xs ys) ≡ length xs + length ys
      unfolding together IsStrictlySortedBy
      length-together [] ys s d = omega arith
      length-together (x ∷ xs) ys s d =
          let rest = length-together xs ys s.1 (λ n h. d n (inr h)) in
          let one = put_length exact x (together xs ys) absent in
          omega arith
        where
          absent : ¬ IsAmong x (together xs ys)
          absent h = elim ((together_joins xs ys x).0 h) [ inl a ↦ not_in_tail order total x xs s a | inr b ↦ d x (inl refl) b ]

module _ {X : Type 0} where
  -- what holds of all remaining elements holds of the one that is taken
  pub holds_next : (P : X → Type 0) (x : X) (left left' : List X) → left ≡ x ∷ left' → All P left → P x
  holds_next P x left left' e a = All-head P x left' (subst (All P) e a)
