-- The result of a crowd: how many takes, and how many paths.
use Rattle.std.proofs.Common.{◌*◌, ◌++◌, ◌<◌, ◌==◌, ◌∷◌, ◌≡◌, ◌≤◌, ◌⊎◌}
use Rattle.crowds.proofs.Prelude.{[], Absorbed, all_edits, AllAgree, and_parts, ap, arith, Bool, cond, count_by, crowd_place, crowd_places, Edit, edit_at, Edited, edits_in, edits_of, eq_by_cmp, false, get_or, HaveWorked, HistoryEvent, inl, inr, is_own, IsAmong, IsAmong-append_cases, IsAmong-append_left, IsAmong-append_right, IsLegal, leb, leb_tells, length, List, ltb-true, map, nat_lt, Opening, own_edits, place_cmp, places_with, refl, Replicated, SeatNow, slice_get-get_or, store_of, subst, sum_by, sum_by-cons, sym, takes_in, tied, true, ℕ, ◌∙◌}
use Rattle.crowds.proofs.{Listed.{from_places, in_places}, Ours.{all_pass, is_ours, ours_many, sum_same}, Own.{own_grows}, SamePaths.{AreAmongPlaces, same_places}}
use Rattle.std.specs.FinMap as finmap

-- the edits of an event of the crowd are at a worker's path
edits_in_ours : (workers : ℕ) (x : HistoryEvent) (e : Edit) → is_ours workers x ≡ true → IsAmong e (edits_in x) → (k : ℕ) × (k < workers) × (e.place ≡ crowd_place k)
edits_in_ours workers (Opening r) e is a = cc
edits_in_ours workers (Edited seat f) e is (inl same) =
    let parts = and_parts (nat_lt seat workers) (eq_by_cmp place_cmp f.place (crowd_place seat)) is in
    (seat, ltb-true seat workers parts.0, ap (λ (g : Edit). g.place) (sym same) ∙ tied f.place (crowd_place seat) parts.1)
edits_in_ours workers (Edited seat f) e is (inr a) = absurd a
edits_in_ours workers (Absorbed seat p) e is a = cc

edits_step : (workers : ℕ) (x : HistoryEvent) (t : List HistoryEvent) (e : Edit) → is_ours workers x ≡ true → (IsAmong e (all_edits t) → (k : ℕ) × (k < workers) × (e.place ≡ crowd_place k))
    → IsAmong e (edits_in x) ⊎ IsAmong e (all_edits t) → (k : ℕ) × (k < workers) × (e.place ≡ crowd_place k)
edits_step workers x t e is rest (inl a) = edits_in_ours workers x e is a
edits_step workers x t e is rest (inr a) = rest a

edits_ours : (workers : ℕ) (t : List HistoryEvent) → ((x : HistoryEvent) → IsAmong x t → is_ours workers x ≡ true) → (e : Edit) → IsAmong e (all_edits t) → (k : ℕ) × (k < workers) × (e.place ≡ crowd_place k)
edits_ours workers [] ours e a = absurd a
edits_ours workers (x ∷ t) ours e a =
    edits_step workers x t e (ours x (inl refl)) (λ b. edits_ours workers t (λ y h. ours y (inr h)) e b) (IsAmong-append_cases e (edits_in x) (all_edits t) a)

-- a worker that has an edit of its own has it among all edits
own_in : (k : ℕ) (x : HistoryEvent) → is_own k x ≡ true → (e : Edit) × IsAmong e (edits_in x) × (e.place ≡ crowd_place k)
own_in k (Opening r) is = cc
own_in k (Edited seat e) is =
    let parts = and_parts (seat == k) (eq_by_cmp place_cmp e.place (crowd_place k)) is in
    (e, inl refl, tied e.place (crowd_place k) parts.1)
own_in k (Absorbed seat p) is = cc

own_step : (k : ℕ) (x : HistoryEvent) (h : List HistoryEvent) → 0 < own_edits k (x ∷ h) → (0 < own_edits k h → (e : Edit) × IsAmong e (all_edits h) × (e.place ≡ crowd_place k))
    → (b : Bool) → is_own k x ≡ b → (e : Edit) × IsAmong e (all_edits (x ∷ h)) × (e.place ≡ crowd_place k)
own_step k x h some rest true is = let r = own_in k x is in (r.0, IsAmong-append_left r.0 (edits_in x) (all_edits h) r.1, r.2)
own_step k x h some rest false is =
    let parts = sum_by-cons (λ y. cond (is_own k y) 1 0) x h in
    let none : ◌≡◌ {A = ℕ} (cond (is_own k x) 1 0) 0 = ap (λ b. cond b 1 0) is in
    let r = rest (omega (arith, parts, none)) in
    (r.0, IsAmong-append_right r.0 (edits_in x) (all_edits h) r.1, r.2)

own_there : (k : ℕ) (h : List HistoryEvent) → 0 < own_edits k h → (e : Edit) × IsAmong e (all_edits h) × (e.place ≡ crowd_place k)
own_there k [] some = absurd (omega arith)
own_there k (x ∷ h) some = own_step k x h some (λ more. own_there k h more) (is_own k x) refl

none_among : (t : List HistoryEvent) (e : Edit) → length t ≡ 0 → IsAmong e (all_edits t) → ⊥
none_among [] e none a = absurd a
none_among (x ∷ t) e none a = absurd (omega arith)

nobody : SeatNow
nobody = record { seen = []; calls = 0; number = 0 }

module _ (workers edits : ℕ) (seats : List SeatNow) (count : length seats ≡ workers) (worked : HaveWorked edits seats) where
  pub crowd_takes : sum_by (λ s. s.calls) seats ≡ workers * edits
  crowd_takes = sum_same (λ (s : SeatNow). s.calls) edits seats (λ k s is. (worked k s is).calls) ∙ ap (λ n. n * edits) count

  module _ (start : Replicated) (h : List HistoryEvent) (agree : AllAgree h seats) (sum : takes_in h ≡ sum_by (λ s. s.calls) seats) where
    own_all : (k : ℕ) → k < workers → edits ≤ own_edits k h
    own_all k lt =
        let is = slice_get-get_or seats k nobody (omega (arith, count)) in
        let s : SeatNow = get_or seats k nobody in
        let own = (worked k s is).own in
        let grows = own_grows k s.seen h (agree k s is).0 in
        omega (arith, own, grows)

    -- all takes after the opening are the crowd's
    all_ours : (q : Replicated) (t : List HistoryEvent) → h ≡ Opening q ∷ t → (x : HistoryEvent) → IsAmong x t → is_ours workers x ≡ true
    all_ours q t is =
        let many = ours_many workers edits h own_all in
        let parts = ap (λ (k : List HistoryEvent). count_by (is_ours workers) k) is ∙ sum_by-cons (λ y. cond (is_ours workers y) 1 0) (Opening q) t in
        let long = ap takes_in is in
        let takes = crowd_takes in
        all_pass (is_ours workers) t (omega (arith, many, parts, long, sum, takes))

    some_edits : (q : Replicated) (t : List HistoryEvent) (e : Edit) → h ≡ Opening q ∷ t → IsAmong e (all_edits t) → 0 < edits
    some_edits q t e is a = pick (leb_tells 1 edits)
      where
        pick : ((leb 1 edits ≡ true) × (1 ≤ edits)) ⊎ ((leb 1 edits ≡ false) × (edits < 1)) → 0 < edits
        pick (inl x) = x.1
        pick (inr x) =
            let none : edits ≡ 0 = (let lt = x.1 in omega arith) in
            let takes = crowd_takes in
            let nothing = ap (λ n. workers * n) none in
            let long = ap takes_in is in
            absurd (none_among t e (omega (arith, sum, takes, nothing, long)) a)

    there : (q : Replicated) (t : List HistoryEvent) → q ≡ start → h ≡ Opening q ∷ t → AreAmongPlaces (all_edits (Opening q ∷ t)) (edits_of start.store ++ map edit_at (crowd_places workers edits))
    there q t same is e a = by (IsAmong-append_cases e (edits_of q.store) (all_edits t) a)
      where
        by : IsAmong e (edits_of q.store) ⊎ IsAmong e (all_edits t) → (f : Edit) × IsAmong f (edits_of start.store ++ map edit_at (crowd_places workers edits)) × (f.place ≡ e.place)
        by (inl b) = (e, IsAmong-append_left e (edits_of start.store) (map edit_at (crowd_places workers edits)) (subst (λ (r : Replicated). IsAmong e (edits_of r.store)) same b), refl)
        by (inr b) =
            let r = edits_ours workers t (all_ours q t is) e b in
            (edit_at (crowd_place r.0), IsAmong-append_right (edit_at (crowd_place r.0)) (edits_of start.store) (map edit_at (crowd_places workers edits)) (in_places workers edits r.0 r.1 (some_edits q t e is b)), sym r.2)

    back : (q : Replicated) (t : List HistoryEvent) → q ≡ start → h ≡ Opening q ∷ t → AreAmongPlaces (edits_of start.store ++ map edit_at (crowd_places workers edits)) (all_edits (Opening q ∷ t))
    back q t same is e a = by (IsAmong-append_cases e (edits_of start.store) (map edit_at (crowd_places workers edits)) a)
      where
        by : IsAmong e (edits_of start.store) ⊎ IsAmong e (map edit_at (crowd_places workers edits)) → (f : Edit) × IsAmong f (all_edits (Opening q ∷ t)) × (f.place ≡ e.place)
        by (inl b) = (e, IsAmong-append_left e (edits_of q.store) (all_edits t) (subst (λ (r : Replicated). IsAmong e (edits_of r.store)) (sym same) b), refl)
        by (inr b) =
            let from = from_places workers edits e b in
            let own = own_all from.1.0 from.1.1 in
            let some = from.0 in
            let r = own_there from.1.0 h (omega (arith, own, some)) in
            (r.0, subst (λ (k : List HistoryEvent). IsAmong r.0 (all_edits k)) is r.1, r.2 ∙ from.1.2)

    of_history : (k : List HistoryEvent) → h ≡ k → IsLegal start k → finmap.len (store_of k) ≡ places_with start.store (crowd_places workers edits)
    of_history [] is legal = absurd legal
    of_history (Opening q ∷ t) is legal = same_places (all_edits (Opening q ∷ t)) (edits_of start.store ++ map edit_at (crowd_places workers edits)) (there q t legal.0 is) (back q t legal.0 is)
    of_history (Edited seat e ∷ t) is legal = absurd legal
    of_history (Absorbed seat p ∷ t) is legal = absurd legal

    pub crowd_places_held : IsLegal start h → finmap.len (store_of h) ≡ places_with start.store (crowd_places workers edits)
    crowd_places_held legal = of_history h refl legal
