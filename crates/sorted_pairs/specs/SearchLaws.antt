-- Results of a binary search among sorted pairs.
use Rattle.std.proofs.Common.{◌++◌, ◌<◌, ◌∷◌, ◌≡◌, ◌≤◌}
use Rattle.sorted_pairs.specs.Prelude.{[], above_lesser, AllWithin, and_parts, arith, below_all, below_at, comparisons_ascend, Equal, Err, get_or, Greater, IfErr, IfOk, is_less, is_sorted, IsBinarySearchResult, IsSearchInRange, IsTotalOrder, IsTrue, length, Less, List, Ok, Ordering, Result, subst, suc, sym, turned, zero, ℕ}
use Rattle.sorted_pairs.specs.Places.{IsAt, IsGap}

module _ {K V : Type 0} (R : K → K → Ordering) (o : IsTotalOrder R) (k : K) where
  at_from : (es : List (K × V)) (i : ℕ) → IsTrue (is_sorted R es) → i < length es
      → ((d : K × V) → R (get_or es i d).0 k ≡ Equal) → IsAt R k es i
  at_from [] i s lt h = absurd (omega arith)
  at_from (e ∷ es) zero s lt h = turned R o e.0 k Equal (h e)
  at_from (e ∷ es) (suc i) s lt h =
      (above_lesser R o k e.0 (get_or es i e).0 (below_at R e.0 es i e (and_parts _ _ s).0 (omega arith)) (h e), at_from es i (and_parts _ _ s).1 (omega arith) h)

  gap_from : (es : List (K × V)) (i : ℕ) → i ≤ length es → AllWithin (λ (e : K × V). R e.0 k ≡ Less) es 0 i
      → AllWithin (λ (e : K × V). R e.0 k ≡ Greater) es i (length es) → IsGap R k es i
  gap_from [] zero le a b = tt
  gap_from [] (suc i) le a b = absurd (omega arith)
  gap_from (e ∷ es) zero le a b = turned R o e.0 k Greater (b 0 e (omega arith) (omega arith))
  gap_from (e ∷ es) (suc i) le a b = (
    turned R o e.0 k Less (a 0 e (omega arith) (omega arith)),
    gap_from es i (omega arith) (λ j d lo hi. a (suc j) d (omega arith) (omega arith)) (λ j d lo hi. b (suc j) d (omega arith) (omega arith)),
  )

  below_last : (x : K) (es : List (K × V)) (l : K × V) → IsTrue (below_all R x (es ++ l ∷ [])) → R x l.0 ≡ Less
  below_last x [] l b = is_less _ (and_parts _ _ b).0
  below_last x (e ∷ es) l b = below_last x es l (and_parts _ _ b).1

  pub search_finds : (es : List (K × V)) (r : Result ℕ ℕ) → IsTrue (is_sorted R es) → IsSearchInRange r (length es)
      → IsBinarySearchResult (λ (e : K × V). R e.0 k) es r → IfOk r (IsAt R k es) × IfErr r (IsGap R k es)
  search_finds es (Ok i) s range found = (at_from es i s range found, tt)
  search_finds es (Err i) s range parted = let p = parted (comparisons_ascend R o k es s) in (tt, gap_from es i range p.0 p.1)

  at_last : (es : List (K × V)) (l : K × V) → IsTrue (is_sorted R (es ++ l ∷ [])) → R l.0 k ≡ Equal → IsAt R k (es ++ l ∷ []) (length es)
  at_last [] l s h = turned R o l.0 k Equal h
  at_last (e ∷ es) l s h = (above_lesser R o k e.0 l.0 (below_last e.0 es l (and_parts _ _ s).0) h, at_last es l (and_parts _ _ s).1 h)

  gap_after : (es : List (K × V)) (l : K × V) → IsTrue (is_sorted R (es ++ l ∷ [])) → R l.0 k ≡ Less
      → IsGap R k (es ++ l ∷ []) (length (es ++ l ∷ []))
  gap_after [] l s h = (turned R o l.0 k Less h, tt)
  gap_after (e ∷ es) l s h = (
    turned R o e.0 k Less (o.trans e.0 l.0 k (below_last e.0 es l (and_parts _ _ s).0) h),
    gap_after es l (and_parts _ _ s).1 h,
  )

  -- the last pair has the key
  pub last_has : (es before : List (K × V)) (l : K × V) → es ≡ before ++ l ∷ [] → IsTrue (is_sorted R es)
      → R l.0 k ≡ Equal → IsAt R k es (length before)
  last_has es before l e s h = subst (λ (x : List (K × V)). IsAt R k x (length before)) (sym e) (at_last before l (subst (λ (x : List (K × V)). IsTrue (is_sorted R x)) e s) h)

  -- the key belongs after the last pair
  pub after_last : (es before : List (K × V)) (l : K × V) → es ≡ before ++ l ∷ [] → IsTrue (is_sorted R es)
      → R l.0 k ≡ Less → IsGap R k es (length es)
  after_last es before l e s h = subst (λ (x : List (K × V)). IsGap R k x (length x)) (sym e) (gap_after before l (subst (λ (x : List (K × V)). IsTrue (is_sorted R x)) e s) h)
