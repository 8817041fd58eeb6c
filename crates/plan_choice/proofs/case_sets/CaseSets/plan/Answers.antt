use Rattle.plan_choice.proofs.Prelude.{case_of, IndexedCase, IsAmong, IsCycle, IsMember, IsStartList, IsStuck, nat_cmp, Precedes, Starts, subst, ℕ}
use Rattle.plan_choice.proofs.PlanLemmas.{clear_7, cycle_same, start_list_same, starting_is, stuck_back}
use Rattle.plan_choice.proofs.case_sets.CaseSets.plan.Goals as goal

pub returns-in-Err : goal.returns-in-Err
returns-in-Err c =
    let case = c.args.self.now in
    let starting = c.in_ok-starting.starting.items in
    let there = rw (c.deref.ensures.value, c.deref-2.ensures.value) at c.in_ok-starting.ensures.left in
    let same = starting_is case c.in_ok-chosen.chosen.items c.in_ok-chosen.ensures _ c.self.view_is starting there in
    let told = rw c.in-Err.is at c.in_ok-cycle.ensures.cycle in
    let cycle = subst (λ (adjacency : IndexedCase). IsCycle nat_cmp (IsStuck (IsMember c.deref-3.result.now) (Precedes adjacency.predecessors.now)) (Precedes adjacency.predecessors.now) c.in-Err.cycle.items) c.self.view_is told in
    let here = subst (λ m. IsCycle nat_cmp (IsStuck (IsMember m) (Precedes case.predecessors.now)) (Precedes case.predecessors.now) c.in-Err.cycle.items) c.deref-3.ensures.value cycle in
    record {
      plan = tt;
      all = tt;
      refusal = record {
        stands = rw c.from_vec.ensures.elements (cycle_same (IsMember starting) (Starts nat_cmp (case_of case)) (Precedes case.predecessors.now) same c.in-Err.cycle.items here);
        clear = c.requires.clear;
      };
    }

pub returns : goal.returns
returns c =
    let case = c.args.self.now in
    let starting = c.in_ok-starting.starting.items in
    let there = rw (c.deref.ensures.value, c.deref-2.ensures.value) at c.in_ok-starting.ensures.left in
    let same = starting_is case c.in_ok-chosen.chosen.items c.in_ok-chosen.ensures _ c.self.view_is starting there in
    let told = rw c.in-Ok.is at c.in_ok-cycle.ensures.list in
    let list = subst (λ (adjacency : IndexedCase). IsStartList nat_cmp (IsMember c.deref-3.result.now) (Precedes adjacency.predecessors.now) c.in-Ok.starts.items) c.self.view_is told in
    let list_here = subst (λ m. IsStartList nat_cmp (IsMember m) (Precedes case.predecessors.now) c.in-Ok.starts.items) c.deref-3.ensures.value list in
    let all = rw c.in-Ok.is at c.in_ok-cycle.ensures.all in
    let all_here = subst (λ m. (u : ℕ) → IsMember m u → IsAmong u c.in-Ok.starts.items) c.deref-3.ensures.value all in
    let free = rw c.in-Ok.is at c.in_ok-cycle.ensures.none_stuck in
    let none = subst (λ (adjacency : IndexedCase). (u : ℕ) → ¬ IsStuck (IsMember c.deref-3.result.now) (Precedes adjacency.predecessors.now) u) c.self.view_is free in
    let none_here = subst (λ m. (u : ℕ) → ¬ IsStuck (IsMember m) (Precedes case.predecessors.now) u) c.deref-3.ensures.value none in
    record {
      plan = record {
        clear = clear_7 case c.requires.clear (λ u s. none_here u (stuck_back (IsMember starting) (Starts nat_cmp (case_of case)) (Precedes case.predecessors.now) same u s));
        stopped = c.in_ok-stops-in-Ok.ensures;
        started = start_list_same (IsMember starting) (Starts nat_cmp (case_of case)) (Precedes case.predecessors.now) same c.in-Ok.starts.items list_here;
      };
      all = λ u s. all_here u ((same u).1 s);
      refusal = tt;
    }
