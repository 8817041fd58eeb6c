-- How many pairs there are, and how many fall to a run.
use Rattle.std.proofs.Common.{◌+◌, ◌++◌, ◌<◌, ◌∷◌, ◌≡◌, ◌≢◌, ◌≤◌}
use Rattle.chunked_pairs.proofs.Prelude.{[], AllKeys, and_parts, ap, AreChained, arith, below_all, Equal, FallsTo, first_run, from_below, get_or, Greater, is_less, is_sorted, IsAt, IsGap, IsTotalOrder, IsTrue, keys_fall, keys_parts, later, length, length-append, Less, List, not_below, Ordering, refl, run_at, subst, suc, sym, take, turned, Vec, viewed, zero, ℕ, ◌∙◌}
use Rattle.chunked_pairs.specs.Chunks.{AreShort}

pub short_runs : {K V : Type 0} (R : K → K → Ordering) (o : IsTotalOrder R) (run : List (K × V)) (ms : List (K × List (K × V))) → AreChained R run ms → AreShort ms
short_runs R o run [] c = tt
short_runs R o run (m ∷ ms) c = ((first_run R o m.1 ms c.2).within, short_runs R o m.1 ms c.2)

module _ {K V A : Type 0} where
  pub len_more : (ms : List (K × Vec (K × V) A)) (i : ℕ) (m : K × Vec (K × V) A) → i < length ms → m ≡ get_or ms i m → length (later (viewed (take (i + 1) ms))) ≡ length (later (viewed (take i ms))) + length m.1.items
  len_more ms i m lt e = let s : i + 1 ≡ suc i = omega arith in ap (λ n. length (later (viewed (take n ms)))) s ∙ next ms i lt e
    where
      next : (ms : List (K × Vec (K × V) A)) (i : ℕ) → i < length ms → m ≡ get_or ms i m → length (later (viewed (take (suc i) ms))) ≡ length (later (viewed (take i ms))) + length m.1.items
      next [] i lt e = absurd (omega arith)
      next (n ∷ ms) zero lt e = let same = ap (λ x. length x.1.items) e in omega (arith, same, length-append n.1.items (later (viewed (take 0 ms))), none ms)
        where
          none : (ms : List (K × Vec (K × V) A)) → length (later (viewed (take 0 ms))) ≡ 0
          none [] = refl
          none (m ∷ ms) = refl
      next (n ∷ ms) (suc i) lt e = omega (arith, next ms i (omega arith) e, length-append n.1.items (later (viewed (take (suc i) ms))), length-append n.1.items (later (viewed (take i ms))))

  pub short_at : (ms : List (K × Vec (K × V) A)) (i : ℕ) (m : K × Vec (K × V) A) → i < length ms → m ≡ get_or ms i m → AreShort (viewed ms) → length m.1.items ≤ 128
  short_at [] i m lt e h = absurd (omega arith)
  short_at (n ∷ ms) zero m lt e h = let same = ap (λ x. length x.1.items) e in omega (arith, same, h.0)
  short_at (n ∷ ms) (suc i) m lt e h = short_at ms i m (omega arith) e h.1

module _ {K V : Type 0} (R : K → K → Ordering) (o : IsTotalOrder R) where
  -- a key at or above one that falls to the last run
  falls_last : (k q : K) (ms : List (K × List (K × V))) (j : ℕ) → FallsTo R k ms j → R q k ≢ Less → length ms ≤ j → FallsTo R q ms j
  falls_last k q [] zero f n le = tt
  falls_last k q [] (suc j) f n le = absurd f
  falls_last k q (m ∷ ms) zero f n le = absurd (omega arith)
  falls_last k q (m ∷ ms) (suc j) f n le = (λ l. f.0 (at_least l), falls_last k q ms j f.1 n (omega arith))
    where
      at_least : R q m.0 ≡ Less → R k m.0 ≡ Less
      at_least l = from_below R o k q m.0 n l

  -- a key that isn't below the last pair falls to the last run
  pub falls_to_last : (k : K) (e : K × V) (es run : List (K × V)) (ms : List (K × List (K × V))) → AreChained R run ms → run_at run ms (length ms) ≡ es ++ e ∷ [] → R k e.0 ≢ Less → FallsTo R k ms (length ms)
  falls_to_last k e es run ms c is n =
      let all = subst (AllKeys (λ q. FallsTo R q ms (length ms))) is (keys_fall R o run ms (length ms) (omega arith) c) in
      falls_last e.0 k ms (length ms) (keys_parts (λ q. FallsTo R q ms (length ms)) es (e ∷ []) all).1.0 n (omega arith)

  -- a key that isn't above the first pair falls to the first run
  pub falls_to_first : (k : K) (e : K × V) (es run : List (K × V)) (ms : List (K × List (K × V))) → AreChained R run ms → run ≡ e ∷ es → R e.0 k ≢ Less → FallsTo R k ms 0
  falls_to_first k e es run [] c is n = tt
  falls_to_first k e es run (m ∷ ms) c is n = from_below R o k e.0 m.0 n (subst (AllKeys (λ q. R q m.0 ≡ Less)) is c.1.below).0

  -- a key at or above one that falls to a run, and below the next separator
  falls_between : (k q s : K) (ms : List (K × List (K × V))) (j : ℕ) (d : K × List (K × V)) → FallsTo R k ms j → R q k ≢ Less → s ≡ (get_or ms j d).0 → R q s ≡ Less → j < length ms → FallsTo R q ms j
  falls_between k q s [] j d f n e l lt = absurd (omega arith)
  falls_between k q s (m ∷ ms) zero d f n e l lt = subst (λ x. R q x ≡ Less) e l
  falls_between k q s (m ∷ ms) (suc j) d f n e l lt = (λ h. f.0 (from_below R o k q m.0 n h), falls_between k q s ms j d f.1 n e l (omega arith))

  above_keys : (P : K → Type 0) (k : K) (es : List (K × V)) (i : ℕ) → IsTrue (below_all R k es) → ((q : K) → R q k ≢ Less → P q) → AllKeys P (take i es)
  above_keys P k [] zero h f = tt
  above_keys P k [] (suc i) h f = tt
  above_keys P k (e ∷ es) zero h f = tt
  above_keys P k (e ∷ es) (suc i) h f = (f e.0 (not_below R o k e.0 (is_less _ (and_parts _ _ h).0)), above_keys P k es i (and_parts _ _ h).1 f)

  pub fit_last : (ms : List (K × List (K × V))) (j : ℕ) (es : List (K × V)) → IsTrue (is_sorted R es) → AllKeys (λ q. FallsTo R q ms j) (take 1 es) → length ms ≤ j → AllKeys (λ q. FallsTo R q ms j) (take (length es) es)
  fit_last ms j [] s f le = tt
  fit_last ms j (e ∷ es) s f le = (f.0, above_keys (λ q. FallsTo R q ms j) e.0 es (length es) (and_parts _ _ s).0 (λ q n. falls_last e.0 q ms j f.0 n le))

  lesser_keys : (P : K → Type 0) (s : K) (es : List (K × V)) (i : ℕ) → IsGap R s es i → ((q : K) → R q s ≡ Less → P q) → AllKeys P (take i es)
  lesser_keys P s [] zero g f = tt
  lesser_keys P s [] (suc i) g f = absurd g
  lesser_keys P s (e ∷ es) zero g f = tt
  lesser_keys P s (e ∷ es) (suc i) g f = (f e.0 (turned R o s e.0 Greater g.0), lesser_keys P s es i g.1 f)

  lesser_before : (P : K → Type 0) (s : K) (es : List (K × V)) (i : ℕ) → IsAt R s es i → ((q : K) → R q s ≡ Less → P q) → AllKeys P (take i es)
  lesser_before P s [] i g f = absurd g
  lesser_before P s (e ∷ es) zero g f = tt
  lesser_before P s (e ∷ es) (suc i) g f = (f e.0 (turned R o s e.0 Greater g.0), lesser_before P s es i g.1 f)

  both_of : (P Q S : K → Type 0) → ((q : K) → P q → Q q → S q) → (es : List (K × V)) → AllKeys P es → AllKeys Q es → AllKeys S es
  both_of P Q S f [] h k = tt
  both_of P Q S f (e ∷ es) h k = (f e.0 h.0 k.0, both_of P Q S f es h.1 k.1)

  -- a key that falls to a run is below the next separator
  falls_under : (k s : K) (ms : List (K × List (K × V))) (j : ℕ) (d : K × List (K × V)) → FallsTo R k ms j → s ≡ (get_or ms j d).0 → j < length ms → R k s ≡ Less
  falls_under k s [] j d f e lt = absurd (omega arith)
  falls_under k s (m ∷ ms) zero d f e lt = subst (λ x. R k x ≡ Less) (sym e) f
  falls_under k s (m ∷ ms) (suc j) d f e lt = falls_under k s ms j d f.1 e (omega arith)

  at_index : (s : K) (es : List (K × V)) (i : ℕ) (d : K × V) → IsAt R s es i → R s (get_or es i d).0 ≡ Equal
  at_index s [] i d a = absurd a
  at_index s (e ∷ es) zero d a = a
  at_index s (e ∷ es) (suc i) d a = at_index s es i d a.1

  gap_index : (s : K) (es : List (K × V)) (i : ℕ) (d : K × V) → IsGap R s es i → i < length es → R s (get_or es i d).0 ≡ Less
  gap_index s [] i d g lt = absurd (omega arith)
  gap_index s (e ∷ es) zero d g lt = g
  gap_index s (e ∷ es) (suc i) d g lt = gap_index s es i d g.1 (omega arith)

  module _ (s : K) (ms : List (K × List (K × V))) (j : ℕ) (is : (d : K × List (K × V)) → s ≡ (get_or ms j d).0) (lt : j < length ms) where
    fit_more : (e : K × V) (es : List (K × V)) (i : ℕ) → IsTrue (is_sorted R (e ∷ es)) → FallsTo R e.0 ms j → AllKeys (λ q. R q s ≡ Less) (take i es) → AllKeys (λ q. FallsTo R q ms j) (take (suc i) (e ∷ es))
    fit_more e es i h f under = (
      f,
      both_of (λ q. R q e.0 ≢ Less) (λ q. R q s ≡ Less) (λ q. FallsTo R q ms j) (λ q n l. falls_between e.0 q s ms j (s, []) f n (is (s, [])) l lt) (take i es)
          (above_keys (λ q. R q e.0 ≢ Less) e.0 es i (and_parts _ _ h).0 (λ q n. n)) under,
    )

    pub fit_at : (es : List (K × V)) (i : ℕ) → IsTrue (is_sorted R es) → 0 < length es → AllKeys (λ q. FallsTo R q ms j) (take 1 es) → IsAt R s es i → (0 < i) × AllKeys (λ q. FallsTo R q ms j) (take i es)
    fit_at [] i h some f a = absurd a
    fit_at (e ∷ es) zero h some f a = let t = turned R o e.0 s Less (falls_under e.0 s ms j (s, []) f.0 (is (s, [])) lt) in cc (t, a)
    fit_at (e ∷ es) (suc i) h some f a = (omega arith, fit_more e es i h f.0 (lesser_before (λ q. R q s ≡ Less) s es i a.1 (λ q l. l)))

    pub fit_gap : (es : List (K × V)) (i : ℕ) → IsTrue (is_sorted R es) → 0 < length es → AllKeys (λ q. FallsTo R q ms j) (take 1 es) → IsGap R s es i → (0 < i) × AllKeys (λ q. FallsTo R q ms j) (take i es)
    fit_gap [] i h some f a = absurd (omega arith)
    fit_gap (e ∷ es) zero h some f a = let t = turned R o e.0 s Less (falls_under e.0 s ms j (s, []) f.0 (is (s, [])) lt) in cc (t, a)
    fit_gap (e ∷ es) (suc i) h some f a = (omega arith, fit_more e es i h f.0 (lesser_keys (λ q. R q s ≡ Less) s es i a.1 (λ q l. l)))

    -- a pair at or above the next separator doesn't fall to the run
    pub none_at : (es : List (K × V)) (i : ℕ) (d : K × V) → IsAt R s es i → ¬ FallsTo R (get_or es i d).0 ms j
    none_at es i d a f =
        let same = turned R o s (get_or es i d).0 Equal (at_index s es i d a) in
        let under = falls_under (get_or es i d).0 s ms j (s, []) f (is (s, [])) lt in
        cc (same, under)

    pub none_from : (es : List (K × V)) (i : ℕ) (d : K × V) → IsGap R s es i → i < length es → ¬ FallsTo R (get_or es i d).0 ms j
    none_from es i d g le f =
        let above = turned R o s (get_or es i d).0 Less (gap_index s es i d g le) in
        let under = falls_under (get_or es i d).0 s ms j (s, []) f (is (s, [])) lt in
        cc (above, under)
