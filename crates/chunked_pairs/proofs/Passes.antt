-- Pairs that a cursor passes.
use Rattle.std.proofs.Common.{◌+◌, ◌++◌, ◌-◌, ◌∷◌, ◌≡◌, ◌≢◌, ◌≤◌}
use Rattle.chunked_pairs.proofs.Prelude.{[], add-one, and_parts, ap, append_assoc, AreChained, arith, chained_after, chained_from, cond, drop, Equal, FallsTo, find, find_above, find_before, find_falls, find_later, find_none, find_second, from_below, get_or, Greater, is_eq, is_sorted, IsAfter, IsAt, IsGap, IsRun, IsTotalOrder, IsTrue, later, length, length-drop, Less, List, None, not_equal, Option, Ordering, refl, run_at, Some, sorted_all, StandsFirst, subst, suc, sym, take, take-append-drop, take_all, tied_itself, turned, zero, ℕ, ◌∙◌}
use Rattle.chunked_pairs.specs.{Searches.{keys_append}}

module _ {K V : Type 0} (R : K → K → Ordering) (k : K) where
  pub after_none : (pairs : List (K × V)) → IsAfter R k pairs pairs
  after_none pairs = record { passed = []; parts = refl; below = tt }

  pub after_more : (pairs left rest : List (K × V)) (e : K × V) → IsAfter R k pairs left → left ≡ e ∷ rest → R e.0 k ≡ Less → IsAfter R k pairs rest
  after_more pairs left rest e a is less = record {
    passed = a.passed ++ e ∷ [];
    parts = a.parts ∙ ap (λ l. a.passed ++ l) is ∙ sym (append_assoc a.passed (e ∷ []) rest);
    below = keys_append (λ q. R q k ≡ Less) a.passed (e ∷ []) a.below (less, tt);
  }

  pub after_first : (pairs rest : List (K × V)) (e : K × V) (order : Ordering) → pairs ≡ e ∷ rest → order ≡ R e.0 k → order ≡ Less → IsAfter R k pairs rest
  after_first pairs rest e order is by less = after_more pairs pairs rest e (after_none pairs) is (sym by ∙ less)

  pub stands : (left rest : List (K × V)) (e : K × V) (order : Ordering) → left ≡ e ∷ rest → order ≡ R e.0 k → StandsFirst R k left order
  stands left rest e order is by = subst (λ l. StandsFirst R k l order) (sym is) (head order by)
    where
      head : (r : Ordering) → r ≡ R e.0 k → StandsFirst R k (e ∷ rest) r
      head Less h = tt
      head Equal h = sym h
      head Greater h = sym h

-- the pair at the index of a key has that key
pub key_at : {K V : Type 0} (R : K → K → Ordering) (k : K) (es : List (K × V)) (i : ℕ) (d : K × V) → IsAt R k es i → R k (get_or es i d).0 ≡ Equal
key_at R k [] i d a = absurd a
key_at R k (e ∷ es) zero d a = a
key_at R k (e ∷ es) (suc i) d a = key_at R k es i d a.1

module _ {K V : Type 0} (R : K → K → Ordering) (o : IsTotalOrder R) (k : K) where
  -- greater keys are found in the pairs after the key's index as in all pairs
  passed : (e : K × V) (es ys : List (K × V)) (q : K) → R k e.0 ≢ Less → R k q ≡ Less → find R q (es ++ ys) ≡ find R q (e ∷ es ++ ys)
  passed e es ys q n less =
      sym (find_none_first (not_equal R o e.0 q (le_less e.0 n)))
    where
      le_less : (x : K) → R k x ≢ Less → R x q ≡ Less
      le_less x n = from_below R o x k q n less

      find_none_first : R q e.0 ≢ Equal → find R q (e ∷ es ++ ys) ≡ find R q (es ++ ys)
      find_none_first ne = find_second R o q (e ∷ []) (es ++ ys) (find_none R o q (e ∷ []) (ne, tt))

  pub after_gap : (es ys : List (K × V)) (i : ℕ) → IsGap R k es i → (q : K) → R k q ≡ Less → find R q (drop i es ++ ys) ≡ find R q (es ++ ys)
  after_gap [] ys zero g q less = refl
  after_gap [] ys (suc i) g q less = refl
  after_gap (e ∷ es) ys zero g q less = refl
  after_gap (e ∷ es) ys (suc i) g q less = after_gap es ys i g.1 q less ∙ passed e es ys q (λ l. let t = g.0 in cc (t, l)) less

  after_at : (es ys : List (K × V)) (i : ℕ) → IsAt R k es i → (q : K) → R k q ≡ Less → find R q (drop (suc i) es ++ ys) ≡ find R q (es ++ ys)
  after_at [] ys i a q less = absurd a
  after_at (e ∷ es) ys zero a q less = passed e es ys q (λ l. let t = a in cc (t, l)) less
  after_at (e ∷ es) ys (suc i) a q less = after_at es ys i a.1 q less ∙ passed e es ys q (λ l. let t = a.0 in cc (t, l)) less

  pub after_next : (es ys : List (K × V)) (i : ℕ) → IsAt R k es i → (q : K) → R k q ≡ Less → find R q (drop (i + 1) es ++ ys) ≡ find R q (es ++ ys)
  after_next es ys i a q less = rw add-one (after_at es ys i a q less)

  -- a key that falls to the first run is found there
  pub found_here : (es : List (K × V)) (ms : List (K × List (K × V))) (x : Option V) → AreChained R es ms → FallsTo R k ms 0 → x ≡ find R k es → x ≡ find R k (es ++ later ms)
  found_here es ms x c f e = e ∙ sym (find_falls R o k es ms 0 c f)

-- Taking all that is left after dropping `i` items.
pub rest_is : {A : Type 0} (i : ℕ) (es : List A) → take (length es - i) (drop i es) ≡ drop i es
rest_is i es = let left = length-drop i es in take_all (length es - i) (drop i es) (omega (arith, left))

pub not_itself : {K : Type 0} (R : K → K → Ordering) (o : IsTotalOrder R) (k : K) → R k k ≢ Less
not_itself R o k h = let t = tied_itself o k in cc (t, h)

module _ {K V : Type 0} (R : K → K → Ordering) (o : IsTotalOrder R) (k : K) where
  -- the pairs after lesser ones have the keys from k on
  pub after_find : (pairs left ys : List (K × V)) → IsAfter R k pairs left → (q : K) → R q k ≢ Less → find R q (left ++ ys) ≡ find R q (pairs ++ ys)
  after_find pairs left ys a q n =
      sym (find_second R o q a.passed (left ++ ys) (find_above R o q k a.passed n a.below))
      ∙ ap (find R q) (sym (append_assoc a.passed left ys)) ∙ ap (λ l. find R q (l ++ ys)) (sym a.parts)

  pub after_chained : (pairs left : List (K × V)) (ms : List (K × List (K × V))) → IsAfter R k pairs left → AreChained R pairs ms → AreChained R left ms
  after_chained pairs left ms a c = chained_after R o a.passed left ms (subst (λ l. AreChained R l ms) a.parts c)

  -- the rest of a run, after an index
  pub chained_rest : (n : ℕ) (l : List (K × V)) (ms : List (K × List (K × V))) → AreChained R l ms → AreChained R (take (length l - n) (drop n l)) ms
  chained_rest n l ms c = subst (λ x. AreChained R x ms) (sym (rest_is n l)) (chained_after R o (take n l) (drop n l) ms (subst (λ x. AreChained R x ms) (sym (take-append-drop n l)) c))

  falls_drop : (ms : List (K × List (K × V))) (j : ℕ) → FallsTo R k ms j → FallsTo R k (drop j ms) 0
  falls_drop [] zero f = f
  falls_drop [] (suc j) f = absurd f
  falls_drop (m ∷ ms) zero f = f
  falls_drop (m ∷ ms) (suc j) f = falls_drop ms j f.1

  -- the run that a key falls to, and those behind it
  pub passed_runs : (left d : List (K × V)) (ms ns : List (K × List (K × V))) (at : ℕ) → at ≤ length ms → d ≡ run_at left ms at → ns ≡ drop at ms → AreChained R left ms → FallsTo R k ms at
      → AreChained R d ns × FallsTo R k ns 0 × ((q : K) → R q k ≢ Less → find R q (d ++ later ns) ≡ find R q (left ++ later ms))
  passed_runs left d ms ns at le di ni c f = (
    subst (λ x. AreChained R x ns) (sym di) (subst (AreChained R (run_at left ms at)) (sym ni) (chained_from R o left ms at le c)),
    subst (λ x. FallsTo R k x 0) (sym ni) (falls_drop ms at f),
    λ q n. ap (λ x. find R q (x ++ later ns)) di ∙ ap (λ x. find R q (run_at left ms at ++ later x)) ni ∙ find_later R o k q left ms at n c f,
  )

  equal_found : (left ys new : List (K × V)) (e : K × V) → StandsFirst R k left Equal → left ++ ys ≡ e ∷ new → Some e.1 ≡ find R k (left ++ ys)
  equal_found [] ys new e s h = absurd s
  equal_found (x ∷ xs) ys new e s h = let same : e ≡ x = cc (h) in ap (λ y. Some y.1) same ∙ sym (ap (λ r. cond (is_eq r) (Some x.1) (find R k (xs ++ ys))) (turned R o x.0 k Equal s))

  equal_after : (left ys new : List (K × V)) (e : K × V) → StandsFirst R k left Equal → left ++ ys ≡ e ∷ new → (q : K) → R k q ≡ Less → find R q new ≡ find R q (left ++ ys)
  equal_after [] ys new e s h q less = absurd s
  equal_after (x ∷ xs) ys new e s h q less =
      let same : new ≡ xs ++ ys = cc (h) in
      let tied : R k x.0 ≡ Equal = turned R o x.0 k Equal s in
      ap (find R q) same ∙ passed_one x (xs ++ ys) q (λ l. cc (tied, l)) less
    where
      passed_one : (e : K × V) (es : List (K × V)) (q : K) → R k e.0 ≢ Less → R k q ≡ Less → find R q es ≡ find R q (e ∷ es)
      passed_one e es q n less = sym (find_second R o q (e ∷ []) es (find_none R o q (e ∷ []) (not_equal R o e.0 q (from_below R o e.0 k q n less), tt)))

  -- the first pair has the key, and is taken
  pub met : (left ys new : List (K × V)) (e : K × V) (order : Ordering) → StandsFirst R k left order → order ≡ Equal → left ++ ys ≡ e ∷ new → (Some e.1 ≡ find R k (left ++ ys)) × ((q : K) → R k q ≡ Less → find R q new ≡ find R q (left ++ ys))
  met left ys new e order s is h =
      let t = subst (StandsFirst R k left) is s in
      (equal_found left ys new e t h, equal_after left ys new e t h)

  -- the first pair is above the key
  pub unmet : (left : List (K × V)) (ms : List (K × List (K × V))) (order : Ordering) → StandsFirst R k left order → order ≡ Greater → AreChained R left ms → None ≡ find R k (left ++ later ms)
  unmet left ms order s is c = none left (subst (StandsFirst R k left) is s) (sorted_all R o left ms c)
    where
      none : (l : List (K × V)) → StandsFirst R k l Greater → IsTrue (is_sorted R (l ++ later ms)) → None ≡ find R k (l ++ later ms)
      none [] t h = absurd t
      none (x ∷ xs) t h =
          let less : R k x.0 ≡ Less = turned R o x.0 k Greater t in
          sym (ap (λ r. cond (is_eq r) (Some x.1) (find R k (xs ++ later ms))) less ∙ find_before R k o x.0 less (xs ++ later ms) (and_parts _ _ h).0)

-- a pair that stands alone is a run
pub one_is_run : {K V : Type 0} (R : K → K → Ordering) (run : List (K × V)) → length run ≡ 1 → IsRun R run
one_is_run R [] one = absurd (omega (arith, one))
one_is_run R (e ∷ []) one = record { sorted = refl; within = omega arith }
one_is_run R (e ∷ f ∷ run) one = absurd (omega (arith, one))
