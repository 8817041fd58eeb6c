-- A worker's own edits, and one more.
use Rattle.std.proofs.Common.{◌+◌, ◌==◌, ◌≡◌, ◌≤◌}
use mathlib.Core.List.{IsPrefix}
use Rattle.crowds.proofs.Prelude.{and_from, ap, arith, cond, crowd_place, Edit, Edited, EndsWith, eq-eqb, eq_by_cmp, HistoryEvent, is_own, List, own_edits, place_cmp, PlaceParts, refl, same_place, subst, sum_by-append, sum_by_push, sym, true, ℕ, ◌∙◌}

pub own_grows : (worker : ℕ) (seen h : List HistoryEvent) → IsPrefix seen h → own_edits worker seen ≤ own_edits worker h
own_grows worker seen h p =
    let parts = sum_by-append (λ x. cond (is_own worker x) 1 0) seen p.0 in
    subst (λ (k : List HistoryEvent). own_edits worker seen ≤ own_edits worker k) p.1 (omega (arith, parts))

own_is : (worker : ℕ) (e : Edit) → e.place ≡ crowd_place worker → is_own worker (Edited worker e) ≡ true
own_is worker e at = and_from (worker == worker) _ (eq-eqb worker worker refl) (ap (λ (q : PlaceParts). eq_by_cmp place_cmp q (crowd_place worker)) at ∙ same_place (crowd_place worker))

pub own_more : (worker : ℕ) (seen h : List HistoryEvent) (e : Edit) → e.place ≡ crowd_place worker → EndsWith seen h (Edited worker e) → own_edits worker seen + 1 ≤ own_edits worker h
own_more worker seen h e at ends =
    let up = own_grows worker seen ends.0 ends.1 in
    let more = sum_by_push (λ x. cond (is_own worker x) 1 0) ends.0 (Edited worker e) in
    let one : ◌≡◌ {A = ℕ} (cond (is_own worker (Edited worker e)) 1 0) 1 = ap (λ b. cond b 1 0) (own_is worker e at) in
    subst (λ (k : List HistoryEvent). own_edits worker seen + 1 ≤ own_edits worker k) (sym ends.2) (omega (arith, up, more, one))
