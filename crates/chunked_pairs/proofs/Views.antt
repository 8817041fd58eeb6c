-- Runs as vectors, and as lists.
use Rattle.std.proofs.Common.{◌&&◌, ◌+◌, ◌++◌, ◌-◌, ◌<◌, ◌∷◌, ◌≡◌, ◌≤◌}
use Rattle.chunked_pairs.proofs.Prelude.{[], ap, arith, below_all, drop, falls_at, falls_gap, FallsTo, get_or, insert, is_lt, is_sorted, IsAt, IsGap, IsTotalOrder, IsTrue, length, List, Ordering, refl, run_at, set, subst, suc, sym, take, Vec, viewed, with_run, without_last, zero, ℕ, ◌∙◌}

module _ {K V A : Type 0} where
  pub length_viewed : (ms : List (K × Vec (K × V) A)) → length (viewed ms) ≡ length ms
  length_viewed [] = refl
  length_viewed (m ∷ ms) = ap suc (length_viewed ms)

  run_behind : (run : List (K × V)) (ms : List (K × Vec (K × V) A)) (i : ℕ) (m : K × Vec (K × V) A) → i < length ms → m ≡ get_or ms i m → run_at run (viewed ms) (suc i) ≡ m.1.items
  run_behind run [] i m lt e = absurd (omega arith)
  run_behind run (n ∷ ms) zero m lt e = ap (λ x. x.1.items) (sym e)
  run_behind run (n ∷ ms) (suc i) m lt e = run_behind n.1.items ms i m (omega arith) e

  -- the run behind a separator
  pub run_here : (run : List (K × V)) (ms : List (K × Vec (K × V) A)) (at i : ℕ) (m : K × Vec (K × V) A) → at ≡ i + 1 → i < length ms → m ≡ get_or ms i m → run_at run (viewed ms) at ≡ m.1.items
  run_here run ms at i m is lt e = let s : at ≡ suc i = omega arith in ap (run_at run (viewed ms)) s ∙ run_behind run ms i m lt e

  with_behind : (run : List (K × V)) (ms : List (K × Vec (K × V) A)) (i : ℕ) (m : K × Vec (K × V) A) (new : Vec (K × V) A) → i < length ms → m ≡ get_or ms i m → (run, viewed (set ms i (m.0, new))) ≡ with_run run (viewed ms) (suc i) new.items
  with_behind run [] i m new lt e = absurd (omega arith)
  with_behind run (n ∷ ms) zero m new lt e = let k = ap (λ x. x.0) e in λ j. (run, (k j, new.items) ∷ viewed ms)
  with_behind run (n ∷ ms) (suc i) m new lt e = let h = with_behind n.1.items ms i m new (omega arith) e in λ j. (run, (n.0, (h j).0) ∷ (h j).1)

  pub with_here : (run : List (K × V)) (ms : List (K × Vec (K × V) A)) (at i : ℕ) (m : K × Vec (K × V) A) (new : Vec (K × V) A) → at ≡ i + 1 → i < length ms → m ≡ get_or ms i m → (run, viewed (set ms i (m.0, new))) ≡ with_run run (viewed ms) at new.items
  with_here run ms at i m new is lt e = let s : at ≡ suc i = omega arith in with_behind run ms i m new lt e ∙ ap (λ n. with_run run (viewed ms) n new.items) (sym s)

  pub viewed_drop : (ms : List (K × Vec (K × V) A)) (i : ℕ) → viewed (drop i ms) ≡ drop i (viewed ms)
  viewed_drop [] zero = refl
  viewed_drop [] (suc i) = refl
  viewed_drop (m ∷ ms) zero = refl
  viewed_drop (m ∷ ms) (suc i) = viewed_drop ms i

  pub viewed_append : (ms ns : List (K × Vec (K × V) A)) → viewed (ms ++ ns) ≡ viewed ms ++ viewed ns
  viewed_append [] ns = refl
  viewed_append (m ∷ ms) ns = ap (λ l. (m.0, m.1.items) ∷ l) (viewed_append ms ns)

  pub viewed_get : (ms : List (K × Vec (K × V) A)) (i : ℕ) (m : K × Vec (K × V) A) (d : K × List (K × V)) → i < length ms → m ≡ get_or ms i m → m.0 ≡ (get_or (viewed ms) i d).0
  viewed_get [] i m d lt e = absurd (omega arith)
  viewed_get (n ∷ ms) zero m d lt e = ap (λ x. x.0) e
  viewed_get (n ∷ ms) (suc i) m d lt e = viewed_get ms i m d (omega arith) e

  pub viewed_insert : (ms : List (K × Vec (K × V) A)) (i : ℕ) (m : K × Vec (K × V) A) → i ≤ length ms → viewed (insert ms i m) ≡ insert (viewed ms) i (m.0, m.1.items)
  viewed_insert [] zero m le = refl
  viewed_insert [] (suc i) m le = absurd (omega arith)
  viewed_insert (n ∷ ms) zero m le = refl
  viewed_insert (n ∷ ms) (suc i) m le = ap (λ l. (n.0, n.1.items) ∷ l) (viewed_insert ms i m (omega arith))

  without_take : (run : List (K × V)) (ms : List (K × Vec (K × V) A)) (k : ℕ) → k + 1 ≡ length ms → (run, viewed (take k ms)) ≡ without_last run (viewed ms)
  without_take run [] k e = absurd (omega arith)
  without_take run (m ∷ []) zero e = refl
  without_take run (m ∷ []) (suc k) e = absurd (omega arith)
  without_take run (m ∷ n ∷ ms) zero e = absurd (omega arith)
  without_take run (m ∷ n ∷ ms) (suc k) e = let h = without_take m.1.items (n ∷ ms) k (omega arith) in λ i. (run, (m.0, (h i).0) ∷ (h i).1)

  -- the last run was popped
  pub without_popped : (run : List (K × V)) (ms ns : List (K × Vec (K × V) A)) (n : ℕ) → n ≡ length ms → ns ≡ take (n - 1) ms → (run, viewed ns) ≡ without_last run (viewed ms)
  without_popped run [] ns n e is = ap (λ l. (run, viewed l)) (is ∙ none (n - 1))
    where
      none : (k : ℕ) → take {A = K × Vec (K × V) A} k [] ≡ []
      none zero = refl
      none (suc k) = refl
  without_popped run (m ∷ ms) ns n e is = ap (λ l. (run, viewed l)) is ∙ without_take run (m ∷ ms) (n - 1) (omega arith)

  module _ (R : K → K → Ordering) where
    below_viewed : (k : K) (ms : List (K × Vec (K × V) A)) → below_all R k (viewed ms) ≡ below_all R k ms
    below_viewed k [] = refl
    below_viewed k (m ∷ ms) = ap (λ b. is_lt (R k m.0) && b) (below_viewed k ms)

    pub sorted_viewed : (ms : List (K × Vec (K × V) A)) → IsTrue (is_sorted R (viewed ms)) → IsTrue (is_sorted R ms)
    sorted_viewed ms h = sym (same ms) ∙ h
      where
        same : (ns : List (K × Vec (K × V) A)) → is_sorted R (viewed ns) ≡ is_sorted R ns
        same [] = refl
        same (n ∷ ns) = λ i. below_viewed n.0 ns i && same ns i

    at_viewed : (k : K) (ms : List (K × Vec (K × V) A)) (i : ℕ) → IsAt R k ms i → IsAt R k (viewed ms) i
    at_viewed k [] i a = absurd a
    at_viewed k (m ∷ ms) zero a = a
    at_viewed k (m ∷ ms) (suc i) a = (a.0, at_viewed k ms i a.1)

    gap_viewed : (k : K) (ms : List (K × Vec (K × V) A)) (i : ℕ) → IsGap R k ms i → IsGap R k (viewed ms) i
    gap_viewed k [] zero g = tt
    gap_viewed k [] (suc i) g = absurd g
    gap_viewed k (m ∷ ms) zero g = g
    gap_viewed k (m ∷ ms) (suc i) g = (g.0, gap_viewed k ms i g.1)

    pub falls_behind : (o : IsTotalOrder R) (k : K) (ms : List (K × Vec (K × V) A)) (i : ℕ) → IsTrue (is_sorted R (viewed ms)) → IsAt R k ms i → FallsTo R k (viewed ms) (i + 1)
    falls_behind o k ms i s a = let e : suc i ≡ i + 1 = omega arith in subst (FallsTo R k (viewed ms)) e (falls_at R o k (viewed ms) i s (at_viewed k ms i a))

    pub falls_before : (o : IsTotalOrder R) (k : K) (ms : List (K × Vec (K × V) A)) (i : ℕ) → IsGap R k ms i → FallsTo R k (viewed ms) i
    falls_before o k ms i g = falls_gap R o k (viewed ms) i (gap_viewed k ms i g)
