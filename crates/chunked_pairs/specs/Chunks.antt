-- Sorted pairs in chunks: a first run of pairs, and further runs behind separators.
-- Source: this project's own.
use Rattle.std.proofs.Common.{◌++◌, ◌<◌, ◌∷◌, ◌≡◌, ◌≢◌, ◌≤◌}
use Rattle.std.specs.Prelude.{Vec}
use Rattle.chunked_pairs.specs.Prelude.{[], drop, is_sorted, IsTrue, length, Less, List, map, Ordering, suc, take, zero, ℕ}

-- how many runs there may be behind the first
abbrev pub most_runs : ℕ
most_runs = 281474976710656

module _ {K V : Type 0} where
  -- every key of the pairs has P
  abbrev pub AllKeys : (K → Type 0) → List (K × V) → Type 0
  AllKeys P [] = Unit {0}
  AllKeys P (e ∷ es) = P e.0 × AllKeys P es

  -- the pairs of the runs behind separators, in order
  abbrev pub later : List (K × List (K × V)) → List (K × V)
  later [] = []
  later (m ∷ ms) = m.1 ++ later ms

  -- separators with the pairs behind each
  abbrev pub viewed : {A : Type 0} → List (K × Vec (K × V) A) → List (K × List (K × V))
  viewed ms = map (λ m. (m.0, m.1.items)) ms

  -- a first run, and those behind separators
  abbrev pub in_runs : List (K × V) → List (K × List (K × V)) → List (K × V) × List (K × List (K × V))
  in_runs run ms = (run, ms)

  -- all pairs, in order
  abbrev pub all_pairs : List (K × V) × List (K × List (K × V)) → List (K × V)
  all_pairs c = c.0 ++ later c.1

  -- the run with a number
  abbrev pub run_at : List (K × V) → List (K × List (K × V)) → ℕ → List (K × V)
  run_at run ms zero = run
  run_at run [] (suc j) = []
  run_at run (m ∷ ms) (suc j) = run_at m.1 ms j

  -- another run in the place of the one with a number
  abbrev pub with_run : List (K × V) → List (K × List (K × V)) → ℕ → List (K × V) → List (K × V) × List (K × List (K × V))
  with_run run ms zero new = (new, ms)
  with_run run [] (suc j) new = (run, [])
  with_run run (m ∷ ms) (suc j) new = let r = with_run m.1 ms j new in (run, (m.0, r.0) ∷ r.1)

  -- the run with a number and the first one have changed places
  abbrev pub swapped : List (K × V) → List (K × List (K × V)) → ℕ → List (K × V) × List (K × List (K × V))
  swapped run ms j = (run_at run ms j, (with_run run ms j run).1)

  -- the run with a number is cut in two, the second behind a separator
  abbrev pub cut_run : List (K × V) → List (K × List (K × V)) → ℕ → ℕ → K → List (K × V) × List (K × List (K × V))
  cut_run run ms zero cut s = (take cut run, (s, drop cut run) ∷ ms)
  cut_run run [] (suc j) cut s = (run, [])
  cut_run run (m ∷ ms) (suc j) cut s = let r = cut_run m.1 ms j cut s in (run, (m.0, r.0) ∷ r.1)

  -- no run behind a separator is too long
  abbrev pub AreShort : List (K × List (K × V)) → Type 0
  AreShort [] = Unit {0}
  AreShort (m ∷ ms) = (length m.1 ≤ 128) × AreShort ms

  -- all runs but the last; the first stays
  abbrev pub without_last : List (K × V) → List (K × List (K × V)) → List (K × V) × List (K × List (K × V))
  without_last run [] = (run, [])
  without_last run (m ∷ []) = (run, [])
  without_last run (m ∷ n ∷ ms) = let r = without_last m.1 (n ∷ ms) in (run, (m.0, r.0) ∷ r.1)

  -- what is left of the last run is put back; a run of which nothing is left goes
  abbrev pub given_back : List (K × V) → List (K × List (K × V)) → List (K × V) → List (K × V) × List (K × List (K × V))
  given_back run ms [] = without_last run ms
  given_back run ms (e ∷ es) = with_run run ms (length ms) (e ∷ es)

  module _ (R : K → K → Ordering) where
    -- a key falls to the run with a number: it is not below that run's separator, and below the next one
    abbrev pub FallsTo : K → List (K × List (K × V)) → ℕ → Type 0
    FallsTo q [] zero = Unit {0}
    FallsTo q [] (suc j) = ⊥
    FallsTo q (m ∷ ms) zero = R q m.0 ≡ Less
    FallsTo q (m ∷ ms) (suc j) = (R q m.0 ≢ Less) × FallsTo q ms j

    -- a run is sorted, and not too long
    pub record IsRun (run : List (K × V)) : Type 0 where
      pub sorted : IsTrue (is_sorted R run)
      pub within : length run ≤ 128

    -- two runs that stand side by side, with the separator between them
    pub record AreParted (run : List (K × V)) (s : K) (next : List (K × V)) : Type 0 where
      pub below : AllKeys (λ q. R q s ≡ Less) run
      pub from : AllKeys (λ q. R q s ≢ Less) next
      pub some : 0 < length next

    -- runs that stand side by side
    abbrev pub AreChained : List (K × V) → List (K × List (K × V)) → Type 0
    AreChained run [] = IsRun run
    AreChained run (m ∷ ms) = IsRun run × AreParted run m.0 m.1 × AreChained m.1 ms

    -- a chain of runs, none of them empty where there are several
    pub record AreChunks (c : List (K × V) × List (K × List (K × V))) : Type 0 where
      pub chained : AreChained c.0 c.1
      pub some : 0 < length c.1 → 0 < length c.0
