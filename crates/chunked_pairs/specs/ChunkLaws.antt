-- What holds of runs that stand side by side.
use Rattle.std.proofs.Common.{◌++◌, ◌<◌, ◌∷◌, ◌≡◌, ◌≢◌, ◌≤◌}
use Rattle.chunked_pairs.specs.Prelude.{[], and_parts, ap, append-nil, arith, below_all, drop, find, is_less, is_lt, is_sorted, IsAt, IsGap, IsTotalOrder, IsTrue, length, Less, List, Ordering, refl, subst, suc, sym, zero, ℕ, ◌∙◌}
use Rattle.chunked_pairs.specs.{Chunks.{all_pairs, AllKeys, AreChained, AreChunks, FallsTo, IsRun, later, run_at}, Searches.{below_from, both, find_above, find_below, find_first, find_second, from_below, keys_append, keys_both, keys_parts, keys_weaker, not_below, sorted_append}}

module _ {K V : Type 0} (R : K → K → Ordering) (o : IsTotalOrder R) where
  -- the pairs from a run on are at or above the run's separator
  pub later_from : (run : List (K × V)) (ms : List (K × List (K × V))) (s : K) → AllKeys (λ q. R q s ≢ Less) run
      → 0 < length run → AreChained R run ms → AllKeys (λ q. R q s ≢ Less) (run ++ later ms)
  later_from run [] s h some c = keys_append (λ q. R q s ≢ Less) run [] h tt
  later_from [] (m ∷ ms) s h some c = absurd (omega arith)
  later_from (e ∷ run) (m ∷ ms) s h some c =
      let next : R s m.0 ≡ Less = from_below R o s e.0 m.0 h.0 c.1.below.0 in
      keys_append (λ q. R q s ≢ Less) (e ∷ run) (m.1 ++ later ms) h
      (keys_weaker (λ y n. not_below R o s y (below_from R o s m.0 y next n)) _ (later_from m.1 ms m.0 c.1.from c.1.some c.2))

  pub next_from : (run : List (K × V)) (m : K × List (K × V)) (ms : List (K × List (K × V))) → AreChained R run (m ∷ ms)
      → AllKeys (λ q. R q m.0 ≢ Less) (m.1 ++ later ms)
  next_from run m ms c = later_from m.1 ms m.0 c.1.from c.1.some c.2

  pub sorted_all : (run : List (K × V)) (ms : List (K × List (K × V))) → AreChained R run ms → IsTrue (is_sorted R (run ++ later ms))
  sorted_all run [] c = subst (λ xs. IsTrue (is_sorted R xs)) (sym (append-nil run)) c.sorted
  sorted_all run (m ∷ ms) c = sorted_append R o m.0 run (m.1 ++ later ms) c.0.sorted (sorted_all m.1 ms c.2) c.1.below (next_from run m ms c)

  pub first_run : (run : List (K × V)) (ms : List (K × List (K × V))) → AreChained R run ms → IsRun R run
  first_run run [] c = c
  first_run run (m ∷ ms) c = c.0

  pub run_is : (run : List (K × V)) (ms : List (K × List (K × V))) (j : ℕ) → j ≤ length ms → AreChained R run ms → IsRun R (run_at run ms j)
  run_is run ms zero le c = first_run run ms c
  run_is run [] (suc j) le c = absurd (omega arith)
  run_is run (m ∷ ms) (suc j) le c = run_is m.1 ms j (omega arith) c.2

  run_within : (P : K → Type 0) (run : List (K × V)) (ms : List (K × List (K × V))) (j : ℕ)
      → AllKeys P (run ++ later ms) → AllKeys P (run_at run ms j)
  run_within P run ms zero h = (keys_parts P run (later ms) h).0
  run_within P run [] (suc j) h = tt
  run_within P run (m ∷ ms) (suc j) h = run_within P m.1 ms j (keys_parts P run (m.1 ++ later ms) h).1

  -- the keys of a run fall to it
  pub keys_fall : (run : List (K × V)) (ms : List (K × List (K × V))) (j : ℕ) → j ≤ length ms → AreChained R run ms
      → AllKeys (λ q. FallsTo R q ms j) (run_at run ms j)
  keys_fall run [] zero le c = all run
    where
      all : (xs : List (K × V)) → AllKeys (λ q. Unit {0}) xs
      all [] = tt
      all (x ∷ xs) = (tt, all xs)
  keys_fall run [] (suc j) le c = absurd (omega arith)
  keys_fall run (m ∷ ms) zero le c = c.1.below
  keys_fall run (m ∷ ms) (suc j) le c = keys_both (λ q. R q m.0 ≢ Less) (λ q. FallsTo R q ms j) (run_at m.1 ms j) (run_within (λ q. R q m.0 ≢ Less) m.1 ms j (next_from run m ms c)) (keys_fall m.1 ms j (omega arith) c.2)

  -- a key is found where it falls to
  pub find_falls : (q : K) (run : List (K × V)) (ms : List (K × List (K × V))) (j : ℕ) → AreChained R run ms
      → FallsTo R q ms j → find R q (run ++ later ms) ≡ find R q (run_at run ms j)
  find_falls q run [] zero c f = ap (find R q) (append-nil run)
  find_falls q run [] (suc j) c f = absurd f
  find_falls q run (m ∷ ms) zero c f = find_first R o q run (m.1 ++ later ms) (find_below R o q m.0 (m.1 ++ later ms) f (next_from run m ms c))
  find_falls q run (m ∷ ms) (suc j) c f = find_second R o q run (m.1 ++ later ms) (find_above R o q m.0 run f.0 c.1.below) ∙ find_falls q m.1 ms j c.2 f.1

  -- keys from one on are found from its run on
  pub find_later : (q k : K) (run : List (K × V)) (ms : List (K × List (K × V))) (j : ℕ) → R k q ≢ Less
      → AreChained R run ms → FallsTo R q ms j
      → find R k (run_at run ms j ++ later (drop j ms)) ≡ find R k (run ++ later ms)
  find_later q k run [] zero n c f = refl
  find_later q k run [] (suc j) n c f = absurd f
  find_later q k run (m ∷ ms) zero n c f = refl
  find_later q k run (m ∷ ms) (suc j) n c f = find_later q k m.1 ms j n c.2 f.1 ∙ sym (find_second R o k run (m.1 ++ later ms) (find_above R o k m.0 run (λ l. n (below_from R o k m.0 q l f.0)) c.1.below))

  pub chained_from : (run : List (K × V)) (ms : List (K × List (K × V))) (j : ℕ) → j ≤ length ms → AreChained R run ms
      → AreChained R (run_at run ms j) (drop j ms)
  chained_from run [] zero le c = c
  chained_from run [] (suc j) le c = absurd (omega arith)
  chained_from run (m ∷ ms) zero le c = c
  chained_from run (m ∷ ms) (suc j) le c = chained_from m.1 ms j (omega arith) c.2

  -- the first pairs of a run are passed
  pub chained_after : (xs ys : List (K × V)) (ms : List (K × List (K × V))) → AreChained R (xs ++ ys) ms → AreChained R ys ms
  chained_after [] ys ms c = c
  chained_after (x ∷ xs) ys [] c = chained_after xs ys [] (record { sorted = (and_parts _ _ c.sorted).1; within = omega (arith, c.within) })
  chained_after (x ∷ xs) ys (m ∷ ms) c = chained_after xs ys (m ∷ ms) (
    record { sorted = (and_parts _ _ c.0.sorted).1; within = omega (arith, c.0.within) },
    record { below = c.1.below.1; from = c.1.from; some = c.1.some },
    c.2,
  )

  -- the separators are sorted
  pub separators_sorted : (run : List (K × V)) (ms : List (K × List (K × V))) → AreChained R run ms → IsTrue (is_sorted R ms)
  separators_sorted run [] c = refl
  separators_sorted run (m ∷ ms) c = both _ _ (above m.0 m.1 ms c.1.from c.1.some c.2) (separators_sorted m.1 ms c.2)
    where
      step : (s : K) (run : List (K × V)) (t : K) → AllKeys (λ q. R q s ≢ Less) run → 0 < length run
          → AllKeys (λ q. R q t ≡ Less) run → R s t ≡ Less
      step s [] t a l b = absurd (omega arith)
      step s (e ∷ es) t a l b = from_below R o s e.0 t a.0 b.0

      above : (s : K) (run : List (K × V)) (ms : List (K × List (K × V))) → AllKeys (λ q. R q s ≢ Less) run
          → 0 < length run → AreChained R run ms → IsTrue (below_all R s ms)
      above s run [] a l c = refl
      above s run (m ∷ ms) a l c =
          let next = step s run m.0 a l c.1.below in
          both _ _ (ap is_lt next) (above s m.1 ms (keys_weaker (λ y n. not_below R o s y (below_from R o s m.0 y next n)) _ c.1.from) c.1.some c.2)

  -- where a search among the separators leads to
  pub falls_gap : (q : K) (ms : List (K × List (K × V))) (i : ℕ) → IsGap R q ms i → FallsTo R q ms i
  falls_gap q [] zero g = tt
  falls_gap q [] (suc i) g = absurd g
  falls_gap q (m ∷ ms) zero g = g
  falls_gap q (m ∷ ms) (suc i) g = (λ l. let t = g.0 in cc (t, l), falls_gap q ms i g.1)

  pub falls_at : (q : K) (ms : List (K × List (K × V))) (i : ℕ) → IsTrue (is_sorted R ms) → IsAt R q ms i → FallsTo R q ms (suc i)
  falls_at q [] i s a = absurd a
  falls_at q (m ∷ ms) zero s a = (λ l. let t = a in cc (t, l), next ms (and_parts _ _ s).0)
    where
      next : (ns : List (K × List (K × V))) → IsTrue (below_all R m.0 ns) → FallsTo R q ns zero
      next [] b = tt
      next (n ∷ ns) b = o.congr q m.0 n.0 a ∙ is_less _ (and_parts _ _ b).0
  falls_at q (m ∷ ms) (suc i) s a = (λ l. let t = a.0 in cc (t, l), falls_at q ms i (and_parts _ _ s).1 a.1)

  pub falls_within : (q : K) (ms : List (K × List (K × V))) (i : ℕ) → FallsTo R q ms i → i ≤ length ms
  falls_within q [] zero f = omega arith
  falls_within q [] (suc i) f = absurd f
  falls_within q (m ∷ ms) zero f = omega arith
  falls_within q (m ∷ ms) (suc i) f = let h = falls_within q ms i f.1 in omega arith

  -- where there are pairs, the last run has some
  pub last_some : (c : List (K × V) × List (K × List (K × V))) → AreChunks R c → 0 < length (all_pairs c)
      → 0 < length (run_at c.0 c.1 (length c.1))
  last_some c chunks some = at_last c.0 c.1 chunks.chained some
    where
      behind : (run : List (K × V)) (ms : List (K × List (K × V))) → AreChained R run ms → 0 < length run
          → 0 < length (run_at run ms (length ms))
      behind run [] c s = s
      behind run (m ∷ ms) c s = behind m.1 ms c.2 c.1.some

      at_last : (run : List (K × V)) (ms : List (K × List (K × V))) → AreChained R run ms → 0 < length (run ++ later ms)
          → 0 < length (run_at run ms (length ms))
      at_last run [] c s = subst (λ l. 0 < length l) (append-nil run) s
      at_last run (m ∷ ms) c s = behind m.1 ms c.2 c.1.some
