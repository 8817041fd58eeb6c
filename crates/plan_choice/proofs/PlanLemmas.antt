-- What starts and what stops, over bit sets and adjacency lists.
use Rattle.std.proofs.Common.{◌<◌, ◌↔◌, ◌∷◌, ◌≡◌}
use Rattle.plan_choice.proofs.Prelude.{[], AreBitsOf, AreInConflict, ArePairsOf, arith, Bool, CanStart, case_of, count_of, cycle_along, GoesOn, IndexedCase, inl, inr, IsAmong, IsChosen, IsClearBelow, IsClosure, IsCycle, IsGoing, IsMember, IsMember-within, IsOutside, IsStartList, IsStoppedByConflict, IsStuck, LeadsInside, least_along, length, List, Listed, member_or_not, nat_cmp, opposite_is, same_closure, Starts, subst, successors_from, TakesAlong, WaitsForever, ℕ}
use Rattle.plan_choice.proofs.{Fitting.{is_false, untrue}, WalkLemmas.{from_target, to_going}}

-- ---- the same chosen nodes have the same start list, the same stuck nodes and the same cycle
module _ (s t : ℕ → Type 0) (before : ℕ → ℕ → Type 0) (same : (u : ℕ) → s u ↔ t u) where
  can_start_same : (standing : ℕ → Type 0) (u : ℕ) → CanStart s before standing u → CanStart t before standing u
  can_start_same standing u f = record { is_chosen = (same u).0 f.is_chosen; waiting = f.waiting; ready = λ v c b. f.ready v ((same v).1 c) b }

  can_start_back : (standing : ℕ → Type 0) (u : ℕ) → CanStart t before standing u → CanStart s before standing u
  can_start_back standing u f = record { is_chosen = (same u).1 f.is_chosen; waiting = f.waiting; ready = λ v c b. f.ready v ((same v).0 c) b }

  pub start_list_same : (list : List ℕ) → IsStartList nat_cmp s before list → IsStartList nat_cmp t before list
  start_list_same list l = record {
    each_least = λ prefix u rest e. least_along nat_cmp (CanStart s before (Listed prefix)) (CanStart t before (Listed prefix)) (can_start_same (Listed prefix)) (can_start_back (Listed prefix)) u (l.each_least prefix u rest e);
    whole = λ u f. l.whole u (can_start_back (Listed list) u f);
  }

  pub stuck_same : (u : ℕ) → IsStuck s before u → IsStuck t before u
  stuck_same u k = record { knot = k.knot; tied = record { all_chosen = λ v h. (same v).0 (k.tied.all_chosen v h); blocked = k.tied.blocked }; member = k.member }

  pub stuck_back : (u : ℕ) → IsStuck t before u → IsStuck s before u
  stuck_back u k = record { knot = k.knot; tied = record { all_chosen = λ v h. (same v).1 (k.tied.all_chosen v h); blocked = k.tied.blocked }; member = k.member }

  pub cycle_same : (list : List ℕ) → IsCycle nat_cmp (IsStuck s before) before list → IsCycle nat_cmp (IsStuck t before) before list
  cycle_same list = cycle_along nat_cmp (IsStuck s before) (IsStuck t before) before stuck_same stuck_back list

module _ (p : IndexedCase) (chosen : List Bool) (c : AreBitsOf (count_of p) (IsChosen nat_cmp (case_of p)) chosen) where
  pub starting_is : (adjacency : IndexedCase) → adjacency ≡ p → (starting : List Bool)
      → ((v : ℕ) → IsMember starting v ↔ (IsMember chosen v × ¬ IsMember adjacency.running.items v))
      → (u : ℕ) → IsMember starting u ↔ Starts nat_cmp (case_of p) u
  starting_is adjacency is starting there u = (
    λ m. (let k = (left u).0 m in record { chosen = (c.sets u).0 k.0; rests = k.1 }),
    λ h. (left u).1 ((c.sets u).1 h.chosen, h.rests),
  )
    where
      left : (v : ℕ) → IsMember starting v ↔ (IsMember chosen v × ¬ IsMember p.running.items v)
      left = subst (λ (r : IndexedCase). (v : ℕ) → IsMember starting v ↔ (IsMember chosen v × ¬ IsMember r.running.items v)) is there

  module _ (unchosen outside : List Bool) (kept : (v : ℕ) → IsMember unchosen v ↔ (IsMember p.running.items v × ¬ IsMember chosen v))
      (left : (v : ℕ) → IsMember outside v ↔ (IsMember unchosen v × ¬ IsMember p.perpetual.items v)) where
    pub outside_is : (u : ℕ) → IsMember outside u ↔ IsOutside nat_cmp (case_of p) u
    outside_is u = (
      λ m. (let l = (left u).0 m in let k = (kept u).0 l.0 in record { runs = k.0; unchosen = λ h. k.1 ((c.sets u).1 h); may_stop = is_false ((case_of p).is_perpetual u) l.1 }),
      λ h. (left u).1 ((kept u).1 (h.runs, λ m. h.unchosen ((c.sets u).0 m)), untrue ((case_of p).is_perpetual u) h.may_stop),
    )

    module _ (going passed counting : List Bool) (g : AreBitsOf (count_of p) (IsGoing (count_of p) (case_of p) (p.target ∷ [])) going)
        (over : (v : ℕ) → IsMember passed v ↔ ((v < length going) × ¬ IsMember going v)) (counts : (v : ℕ) → IsMember counting v ↔ (IsMember chosen v × ¬ IsMember passed v)) where
      pub counting_is : (v : ℕ) → IsMember counting v ↔ (IsChosen nat_cmp (case_of p) v × GoesOn (case_of p) p.target v)
      counting_is v = (
        λ m. (let k = (counts v).0 m in (
          (c.sets v).0 k.0,
          elim (member_or_not going v) [
            | inl o ↦ from_target p v ((g.sets v).0 o)
            | inr out ↦ (let l = IsMember-within chosen v k.0 in absurd (k.1 ((over v).1 (omega (arith, l, c.units, g.units), out))))
          ],
        )),
        λ h. (let m = (c.sets v).1 h.0 in
            let l : v < count_of p = (let k = IsMember-within chosen v m in omega (arith, k, c.units)) in
            (counts v).1 (m, λ o. ((over v).0 o).1 ((g.sets v).1 (to_going p v l h.1)))),
      )

      pub stopped_is : (conflicting : List (List (List ℕ))) (stopped_by_conflict stops : List ℕ) → ArePairsOf (count_of p) (AreInConflict (case_of p)) conflicting
          → ((u : ℕ) → IsAmong u stopped_by_conflict ↔ (IsMember outside u × ((v : ℕ) × (IsAmong v (successors_from conflicting u) × IsMember counting v))))
          → IsClosure (Listed stopped_by_conflict) (LeadsInside outside p.takes_along) nat_cmp stops → IsClosure (IsStoppedByConflict nat_cmp (case_of p)) (TakesAlong nat_cmp (case_of p)) nat_cmp stops
      stopped_is conflicting stopped_by_conflict stops r o =
          same_closure (Listed stopped_by_conflict) (IsStoppedByConflict nat_cmp (case_of p)) (LeadsInside outside p.takes_along) (TakesAlong nat_cmp (case_of p))
          (λ u. (
            λ h. (let m = (o u).0 h in
                let k = (counting_is m.1.0).0 m.1.1.1 in
                record { outside = (outside_is u).0 m.0; conflicting_unit = m.1.0; chosen = k.0; counts = k.1; conflict = (r.pairs u m.1.0).0 m.1.1.0 }),
            λ h. (o u).1 ((outside_is u).1 h.outside, (h.conflicting_unit, ((r.pairs u h.conflicting_unit).1 h.conflict, (counting_is h.conflicting_unit).1 (h.chosen, h.counts)))),
          ))
          (λ v u. (
            λ h. record { outside = (outside_is u).0 h.member; tied = (opposite_is (successors_from p.stops_with) (successors_from p.takes_along) p.stops_transposed v u).0 h.step },
            λ h. record { step = (opposite_is (successors_from p.stops_with) (successors_from p.takes_along) p.stops_transposed v u).1 h.tied; member = (outside_is u).1 h.outside },
          ))
          nat_cmp stops

-- nothing at all is wrong
pub clear_7 : (p : IndexedCase) → IsClearBelow nat_cmp (case_of p) 6 → ((u : ℕ) → ¬ WaitsForever nat_cmp (case_of p) u) → IsClearBelow nat_cmp (case_of p) 7
clear_7 p k none = record {
  target_loaded = λ l. k.target_loaded (omega arith);
  needs_loaded = λ l. k.needs_loaded (omega arith);
  may_start = λ l. k.may_start (omega arith);
  requisites_there = λ l. k.requisites_there (omega arith);
  at_peace = λ l. k.at_peace (omega arith);
  none_waits = λ l. none;
}
