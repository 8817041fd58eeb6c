-- The atomic exchange that adds an event preserves the log's invariant.
use Rattle.std.proofs.Common.{◌++◌, ◌+◌, ◌<◌, ◌==◌, ◌∷◌, ◌≡◌, ◌≤◌}
use Rattle.logbook.specs.Pages.{Cell, cell, Goes, keeps, Moves, no_nib, step}
use mathlib.Core.List.{IsPrefix}
use prog.Atomic.{either}
use Rattle.node_histories.proofs.Prelude.{[], Adds, all_edits, ap, append-nil, arith, Bool, false, HistoryEvent, inl, IsKept, IsLegal, IsNext, legal_filled, legal_own, legal_snoc, length, List, nat_tests, None, opening_of, prefix_length, prefix_whole, refl, Replicated, subst, sym, takes_in, takes_in-snoc, true, ℕ}

abbrev pub shown : List HistoryEvent → List HistoryEvent
shown log = []

abbrev pub moved : List HistoryEvent → List HistoryEvent → ℕ → Type 0
moved xs ys n = Unit {0}

pub adds_goes : (r : Replicated) (log v : List HistoryEvent) (e : HistoryEvent) (old : ℕ) → takes_in v ≡ old → IsNext r.writer (all_edits v) e → IsLegal r v → IsLegal (opening_of log) log → IsPrefix v log
    → (b : Bool) → (takes_in log == old) ≡ b
    → Goes IsKept shown moved 0 (v, (no_nib, None)) (λ n. either (n == old) (old + 1) n) (Adds (step 0 old (old + 1) e) (v, (no_nib, None))) ((takes_in log, true) ∷ (0, true) ∷ []) log
adds_goes r log v e old len may mine legal pre true is =
    let here : takes_in log ≡ old = grind (arith, nat_tests) in
    let filled : 0 < length v = legal_filled r v mine in
    let le : length v ≤ length log = prefix_length v log pre in
    let same : v ≡ log = prefix_whole v log pre (omega arith) in
    let longer : IsLegal r (v ++ e ∷ []) = legal_snoc r v e mine may in
    let whole : v ++ e ∷ [] ≡ log ++ e ∷ [] = ap (λ (w : List HistoryEvent). w ++ e ∷ []) same in
    let legal' : IsLegal (opening_of (log ++ e ∷ [])) (log ++ e ∷ []) = subst (λ (w : List HistoryEvent). IsLegal (opening_of w) w) whole (legal_own r (v ++ e ∷ []) longer) in
    let there : 0 < length log = omega arith in
    let n : either (takes_in log == old) (old + 1) (takes_in log) ≡ takes_in (log ++ e ∷ []) = rw is (omega (arith, takes_in-snoc log e there)) in (
      keeps,
      e ∷ [],
      None,
      tt,
      record { words = ap (λ (k : ℕ). (k, true) ∷ (0, true) ∷ []) n; legal = legal' },
      inl (refl, refl),
      rw is (sym whole),
    )
adds_goes r log v e old len may mine legal pre false is =
    let all : log ++ [] ≡ log = append-nil log in
    let legal' : IsLegal (opening_of (log ++ [])) (log ++ []) = subst (λ (w : List HistoryEvent). IsLegal (opening_of w) w) (sym all) legal in
    let n : either (takes_in log == old) (old + 1) (takes_in log) ≡ takes_in (log ++ []) = rw is (ap takes_in (sym all)) in (
      keeps,
      [],
      None,
      tt,
      record { words = ap (λ (k : ℕ). (k, true) ∷ (0, true) ∷ []) n; legal = legal' },
      inl (refl, refl),
      rw is (ap takes_in all),
    )

-- whatever the log is, the exchange adds the event to all that was seen, or finds that the history is longer
pub adds_moves : (r : Replicated) (v : List HistoryEvent) (e : HistoryEvent) (old : ℕ) → takes_in v ≡ old → IsLegal r v → IsNext r.writer (all_edits v) e
    → Moves IsKept shown moved 0 (v, (no_nib, None)) (λ n. either (n == old) (old + 1) n) (Adds (step 0 old (old + 1) e) (v, (no_nib, None)))
adds_moves r v e old len mine may cs log kept pre away =
    let P : List Cell → Type 0 = λ c. (0 < length c) × ((cell c 0).1 ≡ true) × Goes IsKept shown moved 0 (v, (no_nib, None)) (λ n. either (n == old) (old + 1) n) (Adds (step 0 old (old + 1) e) (v, (no_nib, None))) c log in
    subst P (sym kept.words) (omega arith, refl, adds_goes r log v e old len may mine kept.legal pre (takes_in log == old) refl)
