-- What a tree holds once the pairs of a list were made a tree and appended to it.
use Rattle.std.proofs.Common.{◌||◌, ◌∷◌, ◌≡◌, ◌⊎◌}
use Rattle.name_closure.proofs.Prelude.{[], All, All-head, All-tail, All-weaker, ap, AreJoined, AreLoaded, Bool, cond, eq_by_cmp, eq_by_cmp_equiv, Equal, false, get_or, IfSome, IfSome-update_all, inl, inr, is_at, is_equal, is_some, is_some-lookup, is_some-update_all, IsAmong, IsDistinct-from_sorted, IsStrictlySortedBy, IsTotalOrder, keys_of, List, list_any, lookup, lookup_from_place, None, Option, Ordering, refl, slice_get-get_or, Some, subst, sym, true, true≢false, update_all, ◌∙◌}
use Rattle.name_closure.proofs.News.{found_by, found_there}

or_cases : (a b : Bool) → (a || b) ≡ true → (a ≡ true) ⊎ (b ≡ true)
or_cases true b h = inl refl
or_cases false b h = inr h

or_left : (a b : Bool) → a ≡ true → (a || b) ≡ true
or_left true b h = refl
or_left false b h = cc (h)

or_right : (a b : Bool) → b ≡ true → (a || b) ≡ true
or_right true b h = refl
or_right false b h = h

module _ {N U : Type 0} (order : N → N → Ordering) (total : IsTotalOrder order) (exact : (x y : N) → order x y ≡ Equal → x ≡ y) where
  -- the value of the entries at a key
  abbrev at : List (N × U) → N → Option U
  at es q = lookup (is_at (order q)) es

  key_there : (es : List (N × U)) (q : N) → is_some (at es q) ≡ true → IsAmong q (keys_of es)
  key_there es q h = found_by order total exact q (keys_of es) (sym (is_some-lookup (is_at (order q)) es) ∙ h)

  some_at : (es : List (N × U)) (q : N) → IsAmong q (keys_of es) → is_some (at es q) ≡ true
  some_at es q h = is_some-lookup (is_at (order q)) es ∙ found_there order total exact q (keys_of es) h

  -- the entries are those of `f`, overwritten by the pairs
  module _ (f : N → Option U) (xs es : List (N × U)) (put : (q : N) → at es q ≡ update_all (eq_by_cmp order) f xs q) where
    put_key : (q : N) → IsAmong q (keys_of es) → (is_some (f q) ≡ true) ⊎ IsAmong q (keys_of xs)
    put_key q h = elim (or_cases _ _ (sym (is_some-update_all (eq_by_cmp_equiv total) q f xs) ∙ ap is_some (sym (put q)) ∙ some_at es q h)) [
      | inl a ↦ inl a
      | inr b ↦ inr (found_by order total exact q (keys_of xs) b)
    ]

    key_put : (q : N) → (is_some (f q) ≡ true) ⊎ IsAmong q (keys_of xs) → IsAmong q (keys_of es)
    key_put q h = key_there es q (ap is_some (put q) ∙ is_some-update_all (eq_by_cmp_equiv total) q f xs ∙ either h)
      where
        either : (is_some (f q) ≡ true) ⊎ IsAmong q (keys_of xs) → (is_some (f q) || list_any (is_at (order q)) (keys_of xs)) ≡ true
        either (inl a) = or_left _ _ a
        either (inr b) = or_right _ _ (found_there order total exact q (keys_of xs) b)

    put_holds : (P : N → U → Type 0) → ((q : N) → IfSome (f q) (P q)) → All (λ p. P p.0 p.1) xs → (q : N) → IfSome (at es q) (P q)
    put_holds P h a q =
        subst (λ o. IfSome o (P q)) (sym (put q))
        (IfSome-update_all (eq_by_cmp order) (P q) q f xs (h q)
        (All-weaker (λ (p : N × U). P p.0 p.1) (λ (p : N × U). eq_by_cmp order p.0 q ≡ true → P q p.1) (λ p r e. subst (λ n. P n p.1) (exact p.0 q (is_equal _ e)) r) xs a))

  held_at : (P : N → U → Type 0) (es : List (N × U)) → All (λ p. P p.0 p.1) es → (q : N) → IfSome (at es q) (P q)
  held_at P [] a q = tt
  held_at P (e ∷ es) a q = by (is_at (order q) e.0) refl (held_at P es (All-tail (λ (p : N × U). P p.0 p.1) e es a) q)
    where
      by : (b : Bool) → is_at (order q) e.0 ≡ b → IfSome (at es q) (P q) → IfSome (cond b (Some e.1) (at es q)) (P q)
      by true h more = subst (λ n. P n e.1) (sym (exact q e.0 (is_equal _ h))) (All-head (λ (p : N × U). P p.0 p.1) e es a)
      by false h more = more

  held_by_all : (P : N → U → Type 0) (es : List (N × U)) → IsStrictlySortedBy order (keys_of es) → ((q : N) → IfSome (at es q) (P q)) → All (λ p. P p.0 p.1) es
  held_by_all P es s h = λ i d l. (
      let p = get_or es i d in
      subst (λ o. IfSome o (P p.0)) (lookup_from_place (eq_by_cmp_equiv total) es i p.0 p.1 (IsDistinct-from_sorted order (keys_of es) s) (slice_get-get_or es i d l)) (h p.0))

  -- the pairs were made a tree, and its entries were put over the others
  module _ (pairs more found found' : List (N × U)) (made : (q : N) → at more q ≡ update_all (eq_by_cmp order) (λ _. None) pairs q)
      (put : (q : N) → at found' q ≡ update_all (eq_by_cmp order) (at found) more q) where
    pub added_joins : AreJoined (keys_of found) (keys_of pairs) (keys_of found')
    added_joins n = (
      λ h. elim (put_key (at found) more found' put n h) [
        | inl a ↦ inl (key_there found n a)
        | inr b ↦ elim (put_key (λ _. None) pairs more made n b) [ inl c ↦ absurd (true≢false (sym c)) | inr d ↦ inr d ]
      ],
      λ h. key_put (at found) more found' put n (elim h [ inl a ↦ inl (some_at found n a) | inr b ↦ inr (key_put (λ _. None) pairs more made n (inr b)) ]),
    )

    pub added_loaded : (is_loaded : N → U → Type 0) → IsStrictlySortedBy order (keys_of more) → IsStrictlySortedBy order (keys_of found') → AreLoaded is_loaded found → AreLoaded is_loaded pairs → AreLoaded is_loaded found'
    added_loaded is_loaded s t a b =
        held_by_all is_loaded found' t
        (put_holds (at found) more found' put is_loaded (held_at is_loaded found a)
        (held_by_all is_loaded more s (put_holds (λ _. None) pairs more made is_loaded (λ q. tt) b)))
