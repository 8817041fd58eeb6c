-- What an edit of one run does to runs that stand side by side.
use Rattle.std.proofs.Common.{◌+◌, ◌++◌, ◌<◌, ◌∷◌, ◌≡◌, ◌≢◌, ◌≤◌}
use Rattle.chunked_pairs.specs.Prelude.{[], and_parts, ap, append-nil, append_assoc, arith, below_all, below_at, drop, get_or, insert, is_less, is_sorted, IsTotalOrder, IsTrue, length, length-append, length-drop, Less, List, Ordering, refl, subst, suc, sym, take, take-append-drop, tied_itself, zero, ℕ, ◌∙◌}
use Rattle.chunked_pairs.specs.{Chunks.{AllKeys, all_pairs, AreChained, AreChunks, cut_run, FallsTo, given_back, IsRun, later, run_at, swapped, with_run, without_last}, Searches.{both, keys_parts, keys_weaker, not_below}}

module _ {K V : Type 0} where
  pub run_with : (run : List (K × V)) (ms : List (K × List (K × V))) (j : ℕ) (new : List (K × V)) → j ≤ length ms
      → run_at (with_run run ms j new).0 (with_run run ms j new).1 j ≡ new
  run_with run ms zero new le = refl
  run_with run [] (suc j) new le = absurd (omega arith)
  run_with run (m ∷ ms) (suc j) new le = run_with m.1 ms j new (omega arith)

  pub with_with : (run : List (K × V)) (ms : List (K × List (K × V))) (j : ℕ) (old new : List (K × V))
      → with_run (with_run run ms j old).0 (with_run run ms j old).1 j new ≡ with_run run ms j new
  with_with run ms zero old new = refl
  with_with run [] (suc j) old new = refl
  with_with run (m ∷ ms) (suc j) old new = let h = with_with m.1 ms j old new in λ i. (run, (m.0, (h i).0) ∷ (h i).1)

  pub with_same : (run : List (K × V)) (ms : List (K × List (K × V))) (j : ℕ) → with_run run ms j (run_at run ms j) ≡ (run, ms)
  with_same run ms zero = refl
  with_same run [] (suc j) = refl
  with_same run (m ∷ ms) (suc j) = let h = with_same m.1 ms j in λ i. (run, (m.0, (h i).0) ∷ (h i).1)

  -- a run that is edited while it stands first
  pub swapped_back : (run : List (K × V)) (ms : List (K × List (K × V))) (j : ℕ) (new : List (K × V)) → j ≤ length ms
      → swapped new (swapped run ms j).1 j ≡ with_run run ms j new
  swapped_back run ms zero new le = refl
  swapped_back run [] (suc j) new le = absurd (omega arith)
  swapped_back run (m ∷ ms) (suc j) new le =
      let there = run_with m.1 ms j run (omega arith) in
      let h = with_with m.1 ms j run new in
      λ i. (there i, (m.0, (h i).0) ∷ (h i).1)

  pub length_with : (run : List (K × V)) (ms : List (K × List (K × V))) (j : ℕ) (new : List (K × V))
      → length (with_run run ms j new).1 ≡ length ms
  length_with run ms zero new = refl
  length_with run [] (suc j) new = refl
  length_with run (m ∷ ms) (suc j) new = ap suc (length_with m.1 ms j new)

  -- all pairs but those of a run
  abbrev pub others : List (K × V) → List (K × List (K × V)) → ℕ → List (K × V)
  others run ms zero = later ms
  others run [] (suc j) = run
  others run (m ∷ ms) (suc j) = run ++ others m.1 ms j

  pub others_with : (run : List (K × V)) (ms : List (K × List (K × V))) (j : ℕ) (new : List (K × V))
      → others (with_run run ms j new).0 (with_run run ms j new).1 j ≡ others run ms j
  others_with run ms zero new = refl
  others_with run [] (suc j) new = refl
  others_with run (m ∷ ms) (suc j) new = ap (λ xs. run ++ xs) (others_with m.1 ms j new)

  pub cut_same : (run : List (K × V)) (ms : List (K × List (K × V))) (j cut : ℕ) (s : K) → j ≤ length ms
      → all_pairs (cut_run run ms j cut s) ≡ run ++ later ms
  cut_same run ms zero cut s le = sym (append_assoc (take cut run) (drop cut run) (later ms)) ∙ ap (λ xs. xs ++ later ms) (take-append-drop cut run)
  cut_same run [] (suc j) cut s le = absurd (omega arith)
  cut_same run (m ∷ ms) (suc j) cut s le = ap (λ xs. run ++ xs) (cut_same m.1 ms j cut s (omega arith))

  pub cut_front : (run : List (K × V)) (ms : List (K × List (K × V))) (j cut : ℕ) (s : K) → j ≤ length ms
      → run_at (cut_run run ms j cut s).0 (cut_run run ms j cut s).1 j ≡ take cut (run_at run ms j)
  cut_front run ms zero cut s le = refl
  cut_front run [] (suc j) cut s le = absurd (omega arith)
  cut_front run (m ∷ ms) (suc j) cut s le = cut_front m.1 ms j cut s (omega arith)

  pub cut_back : (run : List (K × V)) (ms : List (K × List (K × V))) (j cut : ℕ) (s : K) → j ≤ length ms
      → run_at (cut_run run ms j cut s).0 (cut_run run ms j cut s).1 (suc j) ≡ drop cut (run_at run ms j)
  cut_back run ms zero cut s le = refl
  cut_back run [] (suc j) cut s le = absurd (omega arith)
  cut_back run (m ∷ ms) (suc j) cut s le = cut_back m.1 ms j cut s (omega arith)

  pub cut_length : (run : List (K × V)) (ms : List (K × List (K × V))) (j cut : ℕ) (s : K) → j ≤ length ms
      → length (cut_run run ms j cut s).1 ≡ length ms + 1
  cut_length run ms zero cut s le = omega arith
  cut_length run [] (suc j) cut s le = absurd (omega arith)
  cut_length run (m ∷ ms) (suc j) cut s le = let h = cut_length m.1 ms j cut s (omega arith) in omega arith

  pub cut_separator : (run : List (K × V)) (ms : List (K × List (K × V))) (j cut : ℕ) (s : K) (d : K × List (K × V))
      → j ≤ length ms → (get_or (cut_run run ms j cut s).1 j d).0 ≡ s
  cut_separator run ms zero cut s d le = refl
  cut_separator run [] (suc j) cut s d le = absurd (omega arith)
  cut_separator run (m ∷ ms) (suc j) cut s d le = cut_separator m.1 ms j cut s d (omega arith)

  -- the cut-off pairs are put behind their separator
  pub insert_cut : (run : List (K × V)) (ms : List (K × List (K × V))) (j cut : ℕ) (s : K) → j ≤ length ms
      → (
        (with_run run ms j (take cut (run_at run ms j))).0,
        insert (with_run run ms j (take cut (run_at run ms j))).1 j
            (s, drop cut (run_at run ms j)),
      ) ≡ cut_run run ms j cut s
  insert_cut run [] zero cut s le = refl
  insert_cut run (m ∷ ms) zero cut s le = refl
  insert_cut run [] (suc j) cut s le = absurd (omega arith)
  insert_cut run (m ∷ ms) (suc j) cut s le = let h = insert_cut m.1 ms j cut s (omega arith) in λ i. (run, (m.0, (h i).0) ∷ (h i).1)

  -- The last run.

  pub last_more : (run : List (K × V)) (ms : List (K × List (K × V))) (xs ys : List (K × V))
      → all_pairs (with_run run ms (length ms) (xs ++ ys)) ≡ all_pairs (with_run run ms (length ms) xs) ++ ys
  last_more run [] xs ys = append-nil (xs ++ ys) ∙ ap (λ l. l ++ ys) (sym (append-nil xs))
  last_more run (m ∷ ms) xs ys = ap (λ l. run ++ l) (last_more m.1 ms xs ys) ∙ sym (append_assoc run (all_pairs (with_run m.1 ms (length ms) xs)) ys)

  pub last_without : (run : List (K × V)) (ms : List (K × List (K × V)))
      → all_pairs (without_last (with_run run ms (length ms) []).0 (with_run run ms (length ms) []).1)
      ≡ all_pairs (with_run run ms (length ms) [])
  last_without run [] = refl
  last_without run (m ∷ []) = refl
  last_without run (m ∷ n ∷ ms) = ap (λ l. run ++ l) (last_without m.1 (n ∷ ms))

  pub without_with : (run : List (K × V)) (ms : List (K × List (K × V))) (new : List (K × V)) → 0 < length ms
      → without_last (with_run run ms (length ms) new).0 (with_run run ms (length ms) new).1 ≡ without_last run ms
  without_with run [] new some = absurd (omega arith)
  without_with run (m ∷ []) new some = refl
  without_with run (m ∷ n ∷ ms) new some = let h = without_with m.1 (n ∷ ms) new (omega arith) in λ i. (run, (m.0, (h i).0) ∷ (h i).1)

  pub later_last : (us : List (K × List (K × V))) (s : K) (ys : List (K × V)) → later (us ++ (s, ys) ∷ []) ≡ later us ++ ys
  later_last [] s ys = append-nil ys
  later_last (u ∷ us) s ys = ap (λ xs. u.1 ++ xs) (later_last us s ys) ∙ sym (append_assoc u.1 (later us) ys)

  pub back_pairs : (run : List (K × V)) (ms : List (K × List (K × V))) (new : List (K × V))
      → all_pairs (given_back (with_run run ms (length ms) []).0 (with_run run ms (length ms) []).1 new)
      ≡ all_pairs (with_run run ms (length ms) new)
  back_pairs run ms [] = last_without run ms
  back_pairs run ms (e ∷ es) = ap all_pairs (ap (λ n. with_run (with_run run ms (length ms) []).0 (with_run run ms (length ms) []).1 n (e ∷ es)) (length_with run ms (length ms) []) ∙ with_with run ms (length ms) [] (e ∷ es))

  pub take_length : (xs ys : List (K × V)) → take (length xs) (xs ++ ys) ≡ xs
  take_length [] [] = refl
  take_length [] (y ∷ ys) = refl
  take_length (x ∷ xs) ys = ap (λ l. x ∷ l) (take_length xs ys)

module _ {K V : Type 0} (R : K → K → Ordering) (o : IsTotalOrder R) where
  pub falls_with : (q : K) (run : List (K × V)) (ms : List (K × List (K × V))) (j i : ℕ) (new : List (K × V))
      → FallsTo R q ms i → FallsTo R q (with_run run ms j new).1 i
  falls_with q run ms zero i new f = f
  falls_with q run [] (suc j) i new f = f
  falls_with q run (m ∷ ms) (suc j) zero new f = f
  falls_with q run (m ∷ ms) (suc j) (suc i) new f = (f.0, falls_with q m.1 ms j i new f.1)

  -- a run is replaced by one whose keys fall to its place
  pub chained_with : (run : List (K × V)) (ms : List (K × List (K × V))) (j : ℕ) (new : List (K × V))
      → AreChained R run ms → j ≤ length ms → IsRun R new → AllKeys (λ q. FallsTo R q ms j) new
      → (0 < j → 0 < length new) → AreChained R (with_run run ms j new).0 (with_run run ms j new).1
  chained_with run [] zero new c le r f some = r
  chained_with run [] (suc j) new c le r f some = absurd (omega arith)
  chained_with run (m ∷ ms) zero new c le r f some = (r, record { below = f; from = c.1.from; some = c.1.some }, c.2)
  chained_with run (m ∷ ms) (suc zero) new c le r f some = (
    c.0,
    record { below = c.1.below; from = keys_weaker (λ q l. l.0) new f; some = some (omega arith) },
    chained_with m.1 ms zero new c.2 (omega arith) r (keys_weaker (λ q l. l.1) new f) (λ z. absurd (omega arith)),
  )
  chained_with run (m ∷ []) (suc (suc j)) new c le r f some = absurd (omega arith)
  chained_with run (m ∷ n ∷ ms) (suc (suc j)) new c le r f some = (
    c.0,
    record { below = c.1.below; from = c.1.from; some = c.1.some },
    chained_with m.1 (n ∷ ms) (suc j) new c.2 (omega arith) r (keys_weaker (λ q l. l.1) new f) (λ z. some (omega arith)),
  )

  first_with : (run : List (K × V)) (ms : List (K × List (K × V))) (j : ℕ) (new : List (K × V)) → 0 < length run
      → 0 < length new → 0 < length (with_run run ms j new).0
  first_with run ms zero new a b = b
  first_with run [] (suc j) new a b = a
  first_with run (m ∷ ms) (suc j) new a b = a

  pub chunks_with : (run : List (K × V)) (ms : List (K × List (K × V))) (j : ℕ) (new : List (K × V))
      → AreChunks R (run, ms) → j ≤ length ms → IsRun R new → AllKeys (λ q. FallsTo R q ms j) new
      → (0 < length ms → 0 < length new) → AreChunks R (with_run run ms j new)
  chunks_with run ms j new c le r f some = record {
    chained = chained_with run ms j new c.chained le r f (λ z. some (omega arith));
    some = λ z. let h : 0 < length ms = omega (arith, length_with run ms j new, z) in first_with run ms j new (c.some h) (some h);
  }

  -- Cutting a run in two.

  sorted_parts : (xs ys : List (K × V)) → IsTrue (is_sorted R (xs ++ ys)) → IsTrue (is_sorted R xs) × IsTrue (is_sorted R ys)
  sorted_parts [] ys h = (refl, h)
  sorted_parts (x ∷ xs) ys h = let t = sorted_parts xs ys (and_parts _ _ h).1 in (both _ _ (first x.0 xs ys (and_parts _ _ h).0) t.0, t.1)
    where
      first : (x : K) (xs ys : List (K × V)) → IsTrue (below_all R x (xs ++ ys)) → IsTrue (below_all R x xs)
      first x [] ys h = refl
      first x (e ∷ xs) ys h = both _ _ (and_parts _ _ h).0 (first x xs ys (and_parts _ _ h).1)

  below_keys : (x : K) (ys : List (K × V)) → IsTrue (below_all R x ys) → AllKeys (λ q. R x q ≡ Less) ys
  below_keys x [] h = tt
  below_keys x (y ∷ ys) h = (is_less _ (and_parts _ _ h).0, below_keys x ys (and_parts _ _ h).1)

  cut_below : (run : List (K × V)) (cut : ℕ) (d : K × V) → cut < length run → IsTrue (is_sorted R run)
      → AllKeys (λ q. R q (get_or run cut d).0 ≡ Less) (take cut run)
  cut_below [] cut d lt h = absurd (omega arith)
  cut_below (e ∷ run) zero d lt h = tt
  cut_below (e ∷ run) (suc cut) d lt h = (below_at R e.0 run cut d (and_parts _ _ h).0 (omega arith), cut_below run cut d (omega arith) (and_parts _ _ h).1)

  cut_from : (run : List (K × V)) (cut : ℕ) (d : K × V) → cut < length run → IsTrue (is_sorted R run)
      → AllKeys (λ q. R q (get_or run cut d).0 ≢ Less) (drop cut run)
  cut_from [] cut d lt h = absurd (omega arith)
  cut_from (e ∷ run) zero d lt h = (λ l. let t = tied_itself o e.0 in cc (t, l), keys_weaker (λ q l. not_below R o e.0 q l) run (below_keys e.0 run (and_parts _ _ h).0))
  cut_from (e ∷ run) (suc cut) d lt h = cut_from run cut d (omega arith) (and_parts _ _ h).1

  keys_take : (P : K → Type 0) (run : List (K × V)) (cut : ℕ) → AllKeys P run → AllKeys P (take cut run)
  keys_take P run cut h = (keys_parts P (take cut run) (drop cut run) (subst (AllKeys P) (sym (take-append-drop cut run)) h)).0

  keys_drop : (P : K → Type 0) (run : List (K × V)) (cut : ℕ) → AllKeys P run → AllKeys P (drop cut run)
  keys_drop P run cut h = (keys_parts P (take cut run) (drop cut run) (subst (AllKeys P) (sym (take-append-drop cut run)) h)).1

  run_take : (run : List (K × V)) (cut : ℕ) → IsRun R run → IsRun R (take cut run)
  run_take run cut r = record {
    sorted = (sorted_parts (take cut run) (drop cut run) (subst (λ xs. IsTrue (is_sorted R xs)) (sym (take-append-drop cut run)) r.sorted)).0;
    within = omega (arith, r.within, ap length (take-append-drop cut run), length-append (take cut run) (drop cut run));
  }

  run_drop : (run : List (K × V)) (cut : ℕ) → IsRun R run → IsRun R (drop cut run)
  run_drop run cut r = record {
    sorted = (sorted_parts (take cut run) (drop cut run) (subst (λ xs. IsTrue (is_sorted R xs)) (sym (take-append-drop cut run)) r.sorted)).1;
    within = omega (arith, r.within, ap length (take-append-drop cut run), length-append (take cut run) (drop cut run));
  }

  some_drop : (run : List (K × V)) (cut : ℕ) → cut < length run → 0 < length (drop cut run)
  some_drop run cut lt = omega (arith, length-drop cut run)

  some_take : (run : List (K × V)) (cut : ℕ) → 0 < cut → cut < length run → 0 < length (take cut run)
  some_take [] cut z lt = absurd (omega arith)
  some_take (e ∷ run) zero z lt = absurd (omega arith)
  some_take (e ∷ run) (suc cut) z lt = omega arith

  pub chained_cut : (run : List (K × V)) (ms : List (K × List (K × V))) (j cut : ℕ) (d : K × V) → AreChained R run ms
      → j ≤ length ms → 0 < cut → cut < length (run_at run ms j)
      → AreChained R (cut_run run ms j cut (get_or (run_at run ms j) cut d).0).0
      (cut_run run ms j cut (get_or (run_at run ms j) cut d).0).1
  chained_cut run [] zero cut d c le z lt = (
    run_take run cut c,
    record { below = cut_below run cut d lt c.sorted; from = cut_from run cut d lt c.sorted; some = some_drop run cut lt },
    run_drop run cut c,
  )
  chained_cut run (m ∷ ms) zero cut d c le z lt = (
    run_take run cut c.0,
    record { below = cut_below run cut d lt c.0.sorted; from = cut_from run cut d lt c.0.sorted; some = some_drop run cut lt },
    (run_drop run cut c.0, record { below = keys_drop (λ q. R q m.0 ≡ Less) run cut c.1.below; from = c.1.from; some = c.1.some }, c.2),
  )
  chained_cut run [] (suc j) cut d c le z lt = absurd (omega arith)
  chained_cut run (m ∷ ms) (suc zero) cut d c le z lt = (
    c.0,
    record { below = c.1.below; from = keys_take (λ q. R q m.0 ≢ Less) m.1 cut c.1.from; some = some_take m.1 cut z lt },
    chained_cut m.1 ms zero cut d c.2 (omega arith) z lt,
  )
  chained_cut run (m ∷ []) (suc (suc j)) cut d c le z lt = absurd (omega arith)
  chained_cut run (m ∷ n ∷ ms) (suc (suc j)) cut d c le z lt = (
    c.0,
    record { below = c.1.below; from = c.1.from; some = c.1.some },
    chained_cut m.1 (n ∷ ms) (suc j) cut d c.2 (omega arith) z lt,
  )

  first_cut : (run : List (K × V)) (ms : List (K × List (K × V))) (j cut : ℕ) (s : K) → 0 < cut
      → cut < length (run_at run ms j) → (0 < length ms → 0 < length run) → 0 < length (cut_run run ms j cut s).0
  first_cut run ms zero cut s z lt some = some_take run cut z lt
  first_cut run [] (suc j) cut s z lt some = absurd (omega (arith, lt))
  first_cut run (m ∷ ms) (suc j) cut s z lt some = some (omega arith)

  pub chunks_cut : (run : List (K × V)) (ms : List (K × List (K × V))) (j cut : ℕ) (d : K × V) → AreChunks R (run, ms)
      → j ≤ length ms → 0 < cut → cut < length (run_at run ms j)
      → AreChunks R (cut_run run ms j cut (get_or (run_at run ms j) cut d).0)
  chunks_cut run ms j cut d c le z lt = record {
    chained = chained_cut run ms j cut d c.chained le z lt;
    some = λ _. first_cut run ms j cut (get_or (run_at run ms j) cut d).0 z lt c.some;
  }

  pub falls_front : (q : K) (run : List (K × V)) (ms : List (K × List (K × V))) (j cut : ℕ) (s : K) → FallsTo R q ms j
      → R q s ≡ Less → FallsTo R q (cut_run run ms j cut s).1 j
  falls_front q run ms zero cut s f l = l
  falls_front q run [] (suc j) cut s f l = absurd f
  falls_front q run (m ∷ ms) (suc j) cut s f l = (f.0, falls_front q m.1 ms j cut s f.1 l)

  pub falls_back : (q : K) (run : List (K × V)) (ms : List (K × List (K × V))) (j cut : ℕ) (s : K) → FallsTo R q ms j
      → R q s ≢ Less → FallsTo R q (cut_run run ms j cut s).1 (suc j)
  falls_back q run ms zero cut s f l = (l, f)
  falls_back q run [] (suc j) cut s f l = absurd f
  falls_back q run (m ∷ ms) (suc j) cut s f l = (f.0, falls_back q m.1 ms j cut s f.1 l)

  -- Taking the last pair.

  pub chained_without : (run : List (K × V)) (ms : List (K × List (K × V))) → AreChained R run ms
      → AreChained R (without_last run ms).0 (without_last run ms).1
  chained_without run [] c = c
  chained_without run (m ∷ []) c = c.0
  chained_without run (m ∷ n ∷ []) c = (c.0, c.1, c.2.0)
  chained_without run (m ∷ n ∷ o' ∷ ms) c = (c.0, c.1, chained_without m.1 (n ∷ o' ∷ ms) c.2)

  first_without : (run : List (K × V)) (ms : List (K × List (K × V))) → (without_last run ms).0 ≡ run
  first_without run [] = refl
  first_without run (m ∷ []) = refl
  first_without run (m ∷ n ∷ ms) = refl

  pub chunks_without : (run : List (K × V)) (ms : List (K × List (K × V))) → 0 < length ms → AreChunks R (run, ms)
      → AreChunks R (without_last run ms)
  chunks_without run ms more c = record {
    chained = chained_without run ms c.chained;
    some = λ _. subst (λ l. 0 < length l) (sym (first_without run ms)) (c.some more);
  }

  -- what is left of the last run, whose first pairs these are
  pub chunks_back : (run : List (K × V)) (ms : List (K × List (K × V))) (new : List (K × V)) → AreChunks R (run, ms)
      → IsRun R new → AllKeys (λ q. FallsTo R q ms (length ms)) new
      → AreChunks R (given_back (with_run run ms (length ms) []).0 (with_run run ms (length ms) []).1 new)
  chunks_back run [] [] c r f = record { chained = r; some = λ z. absurd (omega arith) }
  chunks_back run (m ∷ ms) [] c r f = subst (AreChunks R) (sym (without_with run (m ∷ ms) [] (omega arith))) (chunks_without run (m ∷ ms) (omega arith) c)
  chunks_back run ms (e ∷ es) c r f =
      let len = length_with run ms (length ms) [] in
      subst (AreChunks R)
      (sym (ap (λ n. with_run (with_run run ms (length ms) []).0 (with_run run ms (length ms) []).1 n (e ∷ es)) len ∙ with_with run ms (length ms) [] (e ∷ es)))
      (chunks_with run ms (length ms) (e ∷ es) c (omega arith) r f (λ z. omega arith))

  pub chained_init : (run : List (K × V)) (us : List (K × List (K × V))) (m : K × List (K × V))
      → AreChained R run (us ++ m ∷ []) → AreChained R run us
  chained_init run [] m c = c.0
  chained_init run (u ∷ us) m c = (c.0, c.1, chained_init u.1 us m c.2)

  pub chained_last : (run : List (K × V)) (us : List (K × List (K × V))) (s : K) (xs : List (K × V)) (e : K × V)
      → 0 < length xs → AreChained R run (us ++ (s, xs ++ e ∷ []) ∷ []) → AreChained R run (us ++ (s, xs) ∷ [])
  chained_last run [] s xs e some c = (
    c.0,
    record { below = c.1.below; from = (keys_parts (λ q. R q s ≢ Less) xs (e ∷ []) c.1.from).0; some = some },
    record { sorted = (sorted_parts xs (e ∷ []) c.2.sorted).0; within = omega (arith, c.2.within, length-append xs (e ∷ [])) },
  )
  chained_last run (u ∷ []) s xs e some c = (c.0, c.1, chained_last u.1 [] s xs e some c.2)
  chained_last run (u ∷ v ∷ us) s xs e some c = (c.0, c.1, chained_last u.1 (v ∷ us) s xs e some c.2)

  pub run_part : (xs ys : List (K × V)) → IsRun R (xs ++ ys) → IsRun R xs
  run_part xs ys r = record { sorted = (sorted_parts xs ys r.sorted).0; within = omega (arith, r.within, length-append xs ys) }
