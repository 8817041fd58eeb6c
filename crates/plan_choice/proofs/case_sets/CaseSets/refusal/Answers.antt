use Rattle.plan_choice.proofs.Prelude.{AreBitsOf, AreNeededConflicts, case_of, conflict, count_of, IndexedCase, IsAbsent, IsAmong, IsClearBelow, IsLeast, IsMember, IsRefusal, LacksRequisite, member_read, nat_cmp, need_fault, requisite, subst, successors_from, sym, ℕ}
use Rattle.plan_choice.proofs.CauseLemmas.{clear_2, clear_4, clear_5, clear_6, first_unloaded, lacking, none_lacks, pair_along, rivalry}
use Rattle.plan_choice.proofs.case_sets.CaseSets.refusal.Goals as goal

pub returns-in-Some : goal.returns-in-Some
returns-in-Some c =
    let case = c.self.inside.case.now in
    let needed = c.self.inside.needed.items in
    let bits = c.self.invariant in
    let loaded = member_read case.loaded.items case.target c.index.result.now c.index.ensures case.valid_target c.if-not-index.false in
    let left = rw (c.deref.ensures.value, c.deref-2.ensures.value) at c.in_ok-unloaded.ensures.left in
    let here : IsRefusal nat_cmp (case_of case) (need_fault c.in-Some.unit) = record {
      stands = first_unloaded case needed bits.at_needed c.in_ok-unloaded.unloaded.items left c.in-Some.unit (subst (λ l. IsLeast nat_cmp (IsMember l) c.in-Some.unit) c.deref-3.ensures.value c.in-Some.ensures);
      clear = clear_2 case loaded;
    } in
    subst (λ (adjacency : IndexedCase). IsRefusal nat_cmp (case_of adjacency) (need_fault c.in-Some.unit)) c.self.view_is here

pub returns-in-Some-first_pair : goal.returns-in-Some-first_pair
returns-in-Some-first_pair c =
    let self = c.self.inside in
    let bits = c.self.invariant in
    let left = rw (c.deref.ensures.value, c.deref-2.ensures.value) at c.in_ok-unloaded.ensures.left in
    let absent = subst (λ (adjacency : IndexedCase). AreBitsOf (count_of adjacency) (IsAbsent (count_of adjacency) (case_of adjacency)) c.in_ok-absent.absent.items) (sym c.self.view_is) c.in_ok-absent.ensures in
    let found = rw (c.deref-4.ensures.value, c.deref-5.ensures.value) at c.in-Some-first_pair.ensures in
    let here : IsRefusal nat_cmp (case_of self.case.now) (requisite c.in-Some-first_pair.unit c.in-Some-first_pair.requisite) = record {
      stands = pair_along (λ u v. IsMember self.needed.items u × IsAmong v (successors_from self.case.now.requisites u) × IsMember c.in_ok-absent.absent.items v) (LacksRequisite nat_cmp (case_of self.case.now))
          (lacking self.case.now self.needed.items bits.at_needed c.in_ok-absent.absent.items absent) c.in-Some-first_pair.unit c.in-Some-first_pair.requisite found;
      clear = clear_4 self.case.now self.needed.items bits.at_needed c.in_ok-unloaded.unloaded.items left _ _
          c.index.ensures c.if-not-index.false c.index-2.ensures c.if-index.false (subst (λ l. (v : ℕ) → ¬ IsMember l v) c.deref-3.ensures.value c.in_default.ensures);
    } in
    subst (λ (adjacency : IndexedCase). IsRefusal nat_cmp (case_of adjacency) (requisite c.in-Some-first_pair.unit c.in-Some-first_pair.requisite)) c.self.view_is here

pub returns-in-None : goal.returns-in-None
returns-in-None c =
    let self = c.self.inside in
    let bits = c.self.invariant in
    let left = rw (c.deref.ensures.value, c.deref-2.ensures.value) at c.in_ok-unloaded.ensures.left in
    let absent = subst (λ (adjacency : IndexedCase). AreBitsOf (count_of adjacency) (IsAbsent (count_of adjacency) (case_of adjacency)) c.in_ok-absent.absent.items) (sym c.self.view_is) c.in_ok-absent.ensures in
    let none = rw (c.deref-4.ensures.value, c.deref-5.ensures.value) at c.in_default-first_pair.ensures in
    let peace = rw (c.deref-6.ensures.value, c.deref-7.ensures.value) at c.in-None.ensures in
    let running = clear_5 self.case.now
    (clear_4 self.case.now self.needed.items bits.at_needed c.in_ok-unloaded.unloaded.items left _ _
    c.index.ensures c.if-not-index.false c.index-2.ensures c.if-index.false (subst (λ l. (v : ℕ) → ¬ IsMember l v) c.deref-3.ensures.value c.in_default.ensures))
    (none_lacks self.case.now self.needed.items bits.at_needed c.in_ok-absent.absent.items absent none) in
    let here = clear_6 self.case.now running
    (λ u v h k r. peace u v ((rivalry self.case.now self.needed.items bits.at_needed self.conflicting bits.to_conflicting u v).1 (h, k, r))) in
    subst (λ (adjacency : IndexedCase). IsClearBelow nat_cmp (case_of adjacency) 6) c.self.view_is here

pub returns : goal.returns
returns c =
    let self = c.self.inside in
    let bits = c.self.invariant in
    let left = rw (c.deref.ensures.value, c.deref-2.ensures.value) at c.in_ok-unloaded.ensures.left in
    let absent = subst (λ (adjacency : IndexedCase). AreBitsOf (count_of adjacency) (IsAbsent (count_of adjacency) (case_of adjacency)) c.in_ok-absent.absent.items) (sym c.self.view_is) c.in_ok-absent.ensures in
    let none = rw (c.deref-4.ensures.value, c.deref-5.ensures.value) at c.in_default-first_pair.ensures in
    let found = rw (c.deref-6.ensures.value, c.deref-7.ensures.value) at c.in-Some-first_pair-2.ensures in
    let here : IsRefusal nat_cmp (case_of self.case.now) (conflict c.in-Some-first_pair-2.unit c.in-Some-first_pair-2.conflicting_unit) = record {
      stands = pair_along (λ u v. IsMember self.needed.items u × IsAmong v (successors_from self.conflicting u) × IsMember self.needed.items v) (AreNeededConflicts nat_cmp (case_of self.case.now))
          (rivalry self.case.now self.needed.items bits.at_needed self.conflicting bits.to_conflicting) c.in-Some-first_pair-2.unit c.in-Some-first_pair-2.conflicting_unit found;
      clear = clear_5 self.case.now
          (clear_4 self.case.now self.needed.items bits.at_needed c.in_ok-unloaded.unloaded.items left _ _
          c.index.ensures c.if-not-index.false c.index-2.ensures c.if-index.false (subst (λ l. (v : ℕ) → ¬ IsMember l v) c.deref-3.ensures.value c.in_default.ensures))
          (none_lacks self.case.now self.needed.items bits.at_needed c.in_ok-absent.absent.items absent none);
    } in
    subst (λ (adjacency : IndexedCase). IsRefusal nat_cmp (case_of adjacency) (conflict c.in-Some-first_pair-2.unit c.in-Some-first_pair-2.conflicting_unit)) c.self.view_is here
