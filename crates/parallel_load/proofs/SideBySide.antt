-- Names in byte order that begin alike are adjacent.
use Rattle.std.proofs.Common.{◌++◌, ◌+◌, ◌<◌, ◌||◌, ◌∷◌, ◌≡◌, ◌≢◌, ◌≤◌, ◌⊎◌}
use Rattle.parallel_load.proofs.Prelude.{[], ap, AreWithin, arith, begins_so, BeginsWith, Bool, cases_lt, Decides-eqb, drop, Equal, false, get_or, Greater, inl, inr, is_less, is_lt, is_sorted, IsNonDecreasing, IsPartitionedBy, IsPartitionPoint, IsSorted, IsTrue, key_at_place, keys_ascend, keys_of, length, Less, List, Name, name_cmp, nat_cmp, nat_cmp-IsAntisymmetric, nat_cmp_total, nat_list_cmp_total, or_cases, or_left, or_parts, or_right, Ordering, ordering_then, refl, slice_cmp-IsAntisymmetric, starts_is, subst, suc, sym, tied_itself, true, true≢false, turned, zero, ℕ, ◌∙◌}

-- ---- names

not_less : (r : Ordering) → is_lt r ≡ false → r ≢ Less
not_less r h e = true≢false (sym (ap is_lt e) ∙ h)

-- what begins with a prefix isn't before it
not_before : (search_prefix rest : List ℕ) → is_lt (name_cmp (search_prefix ++ rest) search_prefix) ≡ false
not_before [] [] = refl
not_before [] (x ∷ rest) = refl
not_before (b ∷ search_prefix) rest = ap (λ (r : Ordering). is_lt (ordering_then r (name_cmp (search_prefix ++ rest) search_prefix))) (tied_itself nat_cmp_total b) ∙ not_before search_prefix rest

begins_tail : (b : ℕ) (search_prefix n : List ℕ) → BeginsWith search_prefix n → BeginsWith (b ∷ search_prefix) (b ∷ n)
begins_tail b search_prefix n h = record { rest = h.rest; is = ap (λ (l : List ℕ). b ∷ l) h.is }

-- what is between a prefix and something that begins with it begins with it
between : (search_prefix a rest : List ℕ) → name_cmp a search_prefix ≢ Less → name_cmp a (search_prefix ++ rest) ≢ Greater → BeginsWith search_prefix a
between [] a rest f g = record { rest = a; is = refl }
between (b ∷ search_prefix) [] rest f g = absurd (f refl)
between (b ∷ search_prefix) (x ∷ a) rest f g = by (nat_cmp x b) refl (between search_prefix a rest)
  where
    by : (r : Ordering) → nat_cmp x b ≡ r → (name_cmp a search_prefix ≢ Less → name_cmp a (search_prefix ++ rest) ≢ Greater → BeginsWith search_prefix a) → BeginsWith (b ∷ search_prefix) (x ∷ a)
    by Less e more = absurd (f (ap (λ (r : Ordering). ordering_then r (name_cmp a search_prefix)) e))
    by Greater e more = absurd (g (ap (λ (r : Ordering). ordering_then r (name_cmp a (search_prefix ++ rest))) e))
    by Equal e more =
        let same : x ≡ b = nat_cmp-IsAntisymmetric x b e in
        let h = more (λ k. f (ap (λ (r : Ordering). ordering_then r (name_cmp a search_prefix)) e ∙ k))
        (λ k. g (ap (λ (r : Ordering). ordering_then r (name_cmp a (search_prefix ++ rest))) e ∙ k)) in
        subst (λ (z : ℕ). BeginsWith (b ∷ search_prefix) (z ∷ a)) (sym same) (begins_tail b search_prefix a h)

-- ---- non-descending order

-- one step more that doesn't descend
is_non_decreasing : (a b c : Name) → name_cmp a b ≢ Greater → name_cmp b c ≢ Greater → name_cmp a c ≢ Greater
is_non_decreasing a b c f g = by (name_cmp a b) (name_cmp b c) refl refl
  where
    same : (x y : Name) → name_cmp x y ≡ Equal → x ≡ y
    same = slice_cmp-IsAntisymmetric nat_cmp-IsAntisymmetric

    by : (r q : Ordering) → name_cmp a b ≡ r → name_cmp b c ≡ q → name_cmp a c ≢ Greater
    by Greater q e h = absurd (f e)
    by r Greater e h = absurd (g h)
    by Less Less e h = λ k. let l = nat_list_cmp_total.trans a b c e h in cc (l, k)
    by Equal q e h = subst (λ (n : Name). name_cmp n c ≢ Greater) (sym (same a b e)) g
    by Less Equal e h = subst (λ (n : Name). name_cmp a n ≢ Greater) (same b c h) f

equal_is_non_decreasing : (a : Name) → name_cmp a a ≢ Greater
equal_is_non_decreasing a h = let e = tied_itself nat_list_cmp_total a in cc (e, h)

module _ {V : Type 0} where
  steps_are_non_decreasing : (pairs : List (Name × V)) → ((k : ℕ) (d : Name × V) → k + 1 < length pairs → name_cmp (get_or pairs k d).0 (get_or pairs (k + 1) d).0 ≢ Greater) → IsNonDecreasing pairs
  steps_are_non_decreasing pairs each i zero d l m =
      let e : i ≡ 0 = omega arith in
      subst (λ (k : ℕ). name_cmp (get_or pairs k d).0 (get_or pairs 0 d).0 ≢ Greater) (sym e) (equal_is_non_decreasing (get_or pairs 0 d).0)
  steps_are_non_decreasing pairs each i (suc j) d l m = by (cases_lt j i) (λ k. steps_are_non_decreasing pairs each i j d k (omega (arith, m)))
    where
      by : (j < i) ⊎ (i ≤ j) → (i ≤ j → name_cmp (get_or pairs i d).0 (get_or pairs j d).0 ≢ Greater) → name_cmp (get_or pairs i d).0 (get_or pairs (suc j) d).0 ≢ Greater
      by (inl k) more =
          let e : i ≡ suc j = omega (arith, k, l) in
          subst (λ (n : ℕ). name_cmp (get_or pairs n d).0 (get_or pairs (suc j) d).0 ≢ Greater) (sym e) (equal_is_non_decreasing (get_or pairs (suc j) d).0)
      by (inr k) more =
          let e : j + 1 ≡ suc j = omega arith in
          let step : name_cmp (get_or pairs j d).0 (get_or pairs (suc j) d).0 ≢ Greater =
          subst (λ (n : ℕ). name_cmp (get_or pairs j d).0 (get_or pairs n d).0 ≢ Greater) e (each j d (omega (arith, m))) in
          is_non_decreasing (get_or pairs i d).0 (get_or pairs j d).0 (get_or pairs (suc j) d).0 (more k) step

  -- names in ascending order don't descend
  pub ascending_is_non_decreasing : (pairs : List (Name × V)) → IsTrue (is_sorted name_cmp pairs) → IsNonDecreasing pairs
  ascending_is_non_decreasing pairs sorted = steps_are_non_decreasing pairs by
    where
      by : (k : ℕ) (d : Name × V) → k + 1 < length pairs → name_cmp (get_or pairs k d).0 (get_or pairs (k + 1) d).0 ≢ Greater
      by k d l g =
          let ascend = keys_ascend name_cmp pairs k (k + 1) [] sorted (omega arith) l in
          let one = key_at_place pairs k d [] (omega (arith, l)) in
          let two = key_at_place pairs (k + 1) d [] l in
          let less : name_cmp (get_or pairs k d).0 (get_or pairs (k + 1) d).0 ≡ Less = ap (λ (n : Name). name_cmp n (get_or pairs (k + 1) d).0) one ∙ ap (name_cmp (get_or (keys_of pairs) k [])) two ∙ ascend in
          cc (less, g)

  -- nor do pairs that were sorted by their names and then by their values
  pub sorted_is_non_decreasing : (R : V → V → Ordering) (pairs : List (Name × V)) → IsSorted (λ (p q : Name × V). ordering_then (name_cmp p.0 q.0) (R p.1 q.1)) pairs → IsNonDecreasing pairs
  sorted_is_non_decreasing R pairs sorted = steps_are_non_decreasing pairs by
    where
      by : (k : ℕ) (d : Name × V) → k + 1 < length pairs → name_cmp (get_or pairs k d).0 (get_or pairs (k + 1) d).0 ≢ Greater
      by k d l g =
          let p : Name × V = get_or pairs k d in
          let q : Name × V = get_or pairs (k + 1) d in
          let back : name_cmp q.0 p.0 ≡ Less = turned name_cmp nat_list_cmp_total p.0 q.0 Greater g in
          true≢false (sym (ap (λ (r : Ordering). is_lt (ordering_then r (R q.1 p.1))) back) ∙ sorted k d (omega arith) l)

  -- ---- where they are

  module _ (search_prefix : List ℕ) (pairs : List (Name × V)) (dont : IsNonDecreasing pairs) where
    abbrev pub below : Name × V → Bool
    below p = is_lt (name_cmp p.0 search_prefix)

    abbrev pub below_or_begins : Name × V → Bool
    below_or_begins p = is_lt (name_cmp p.0 search_prefix) || begins_so search_prefix p.0

    before_below : (a b : Name) → name_cmp a b ≢ Greater → is_lt (name_cmp b search_prefix) ≡ true → is_lt (name_cmp a search_prefix) ≡ true
    before_below a b f g = by (name_cmp a b) refl
      where
        by : (r : Ordering) → name_cmp a b ≡ r → is_lt (name_cmp a search_prefix) ≡ true
        by Less e = ap is_lt (nat_list_cmp_total.trans a b search_prefix e (is_less (name_cmp b search_prefix) g))
        by Equal e = subst (λ (n : Name). is_lt (name_cmp n search_prefix) ≡ true) (sym (slice_cmp-IsAntisymmetric nat_cmp-IsAntisymmetric a b e)) g
        by Greater e = absurd (f e)

    starts : (n : Name) → (begins_so search_prefix n ≡ true → BeginsWith search_prefix n) × (BeginsWith search_prefix n → begins_so search_prefix n ≡ true)
    starts n = let h = starts_is Decides-eqb n search_prefix (begins_so search_prefix n) refl in (λ e. record { rest = drop (length search_prefix) n; is = h.0 e }, λ b. h.1 b.rest b.is)

    pub below_first : IsPartitionedBy below pairs
    below_first i j d l m h = before_below (get_or pairs i d).0 (get_or pairs j d).0 (dont i j d l m) h

    pub below_or_begins_first : IsPartitionedBy below_or_begins pairs
    below_or_begins_first i j d l m h = by (or_cases (below q) (begins_so search_prefix q.0) h)
      where
        p : Name × V
        p = get_or pairs i d

        q : Name × V
        q = get_or pairs j d

        begins : BeginsWith search_prefix q.0 → (b : Bool) → below p ≡ b → below_or_begins p ≡ true
        begins k true e = or_left (below p) (begins_so search_prefix p.0) e
        begins k false e =
            or_right (below p) (begins_so search_prefix p.0)
            ((starts p.0).1 (between search_prefix p.0 k.rest (not_less (name_cmp p.0 search_prefix) e) (subst (λ (n : Name). name_cmp p.0 n ≢ Greater) k.is (dont i j d l m))))

        by : (below q ≡ true) ⊎ (begins_so search_prefix q.0 ≡ true) → below_or_begins p ≡ true
        by (inl e) = or_left (below p) (begins_so search_prefix p.0) (before_below p.0 q.0 (dont i j d l m) e)
        by (inr e) = begins ((starts q.0).0 e) (below p) refl

    pub stand_within : (start end : ℕ) → IsPartitionPoint (λ y. below y ≡ true) (λ y. below y ≡ false) pairs start
        → IsPartitionPoint (λ y. below_or_begins y ≡ true) (λ y. below_or_begins y ≡ false) pairs end → AreWithin search_prefix pairs start end
    stand_within start end first last i d l b = (from (cases_lt i start), to (cases_lt i end))
      where
        p : Name × V
        p = get_or pairs i d

        from : (i < start) ⊎ (start ≤ i) → start ≤ i
        from (inr k) = k
        from (inl k) =
            let h : below p ≡ true = first.0 i d (omega arith) k in
            absurd (true≢false (sym h ∙ ap (λ (n : Name). is_lt (name_cmp n search_prefix)) b.is ∙ not_before search_prefix b.rest))

        to : (i < end) ⊎ (end ≤ i) → i < end
        to (inl k) = k
        to (inr k) =
            let h : below_or_begins p ≡ false = last.1 i d k l in
            absurd (true≢false (sym ((starts p.0).1 b) ∙ (or_parts (below p) (begins_so search_prefix p.0) h).1))
