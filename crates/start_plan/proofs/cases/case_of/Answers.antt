use Rattle.std.proofs.Common.{◌<◌, ◌↔◌, ◌∷◌, ◌≡◌, ◌⊎◌}
use Rattle.start_plan.proofs.Prelude.{[], After, ap, AreAdjacencyOf, AreBitsBy, AreSuccessorsOf, Bool, Conflicts, count_of, false, Files, is_loaded, is_manual, is_perpetual_by, is_same, IsAmong, IsIndexFor, IsKnown, IsMember, length, List, list_any, LoadMap, main_of, Manager, map, MatchOption, Name, name_at, needing, neighbors, neighbors-start, None, opposite_is, Option, Profile, refl, Requisite, subst, successors-start, successors_from, sym, transposed_from, tying, unit_in, weak, ℕ, ◌∙◌}
use Rattle.start_plan.proofs.{BitSets.{bits_named}, Casing.{edge_successors, either_named, main_is, opposite_successors, running_known, running_named}}
use Rattle.start_plan.proofs.cases.case_of.Goals as goal

-- where there is no unit, none is perpetual
never : (profile : Profile) → is_perpetual_by profile None ≡ false
never Files = refl
never Manager = refl

pub returns-clause-case : goal.returns-clause-case
returns-clause-case c =
    let load = c.args.graph.now.load in
    let edges = c.args.graph.now.edges in
    let request = c.args.request.now in
    let M : Option ℕ → Type 0 = λ o. MatchOption o (¬ IsKnown load request.target) (IsIndexFor load request.target) in
    let n = subst M c.unwrap-target.ensures c.index.ensures.index in
    let i = c.unwrap-target.result in
    let target : name_at load i ≡ main_of load request.target = n.index_is.named ∙ sym (main_is load request.target n.main n.stands) in
    let L : LoadMap → Type 0 = λ m. AreBitsBy m is_loaded c.in_ok-status.status.loaded.items in
    let R : LoadMap → Type 0 = λ m. AreBitsBy m is_manual c.in_ok-status.status.manual.items in
    let refuses = subst R c.loaded-loaded.ensures.load c.in_ok-status.ensures.manual in
    let P : LoadMap → Type 0 = λ m. AreBitsBy m (is_perpetual_by m.viewer.profile) c.in_ok-status.status.perpetual.items in
    let always = bits_named load (is_perpetual_by load.viewer.profile) (never load.viewer.profile) c.in_ok-status.status.perpetual.items (subst P c.loaded-loaded.ensures.load c.in_ok-status.ensures.perpetual) in
    let N : List Name → Type 0 = λ ns. (j : ℕ) → IsMember c.in_ok-asked_to_run.asked_to_run.items j ↔ ((m : Name) × IsAmong m ns × IsIndexFor load m j) in
    record {
      below = n.index_is.below;
      profile = ap (λ v. v.profile) c.viewer.ensures.viewer ∙ ap (λ m. m.viewer.profile) c.loaded-loaded.ensures.load;
      target = target;
      refuses = ap (λ u. is_manual (unit_in load u)) (sym target) ∙ sym (refuses.each i false n.index_is.below);
      loaded = bits_named load is_loaded refl c.in_ok-status.status.loaded.items (subst L c.loaded-loaded.ensures.load c.in_ok-status.ensures.loaded);
      running =
          either_named load (λ u. is_perpetual_by load.viewer.profile (unit_in load u)) (λ u. list_any (is_same u) (map (main_of load) request.running))
          c.in_ok-status.status.perpetual.items c.in_ok-asked_to_run.asked_to_run.items c.in_ok-running.running.items always
          (running_named load request.running (running_known load request c.requires.names c.requires.whole) c.in_ok-asked_to_run.asked_to_run.items
          (subst N c.as_slice.ensures.elements c.in_ok-asked_to_run.ensures.bits))
          (subst (λ (a : List Bool). (j : ℕ) → IsMember c.in_ok-running.running.items j ↔ (IsMember a j ⊎ IsMember c.in_ok-asked_to_run.asked_to_run.items j)) c.deref.ensures.value
          (subst (λ (b : List Bool). (j : ℕ) → IsMember c.in_ok-running.running.items j ↔ (IsMember c.deref.result.now j ⊎ IsMember b j)) c.deref-2.ensures.value c.in_ok-running.ensures.members));
      perpetual = always;
      needs = edge_successors load edges needing (successors_from c.in_ok-needing.needing.successors) c.in_ok-needing.ensures.successors;
      wants = edge_successors load edges weak (successors_from c.in_ok-asked.asked.wants) c.in_ok-asked.ensures.wants;
      requisites = edge_successors load edges (Requisite ∷ []) (successors_from c.in_ok-asked.asked.requisites) c.in_ok-asked.ensures.requisites;
      conflicts = edge_successors load edges (Conflicts ∷ []) (neighbors c.adjacency.result.now) c.adjacency.ensures.successors;
      predecessors = edge_successors load edges (After ∷ []) (neighbors c.adjacency-3.result.now) c.adjacency-3.ensures.successors;
      stops_with = edge_successors load edges tying (successors_from c.in_ok-tying.tying.successors) c.in_ok-tying.ensures.successors;
    }

pub invariant_of-result : goal.invariant_of-result
invariant_of-result c =
    let graph = c.args.graph.now in
    let load = graph.load in
    let request = c.args.request.now in
    let M : Option ℕ → Type 0 = λ o. MatchOption o (¬ IsKnown load request.target) (IsIndexFor load request.target) in
    let index = subst M c.unwrap-target.ensures c.index.ensures.index in
    let L : LoadMap → Type 0 = λ m. AreBitsBy m is_loaded c.in_ok-status.status.loaded.items in
    let R : LoadMap → Type 0 = λ m. AreBitsBy m is_manual c.in_ok-status.status.manual.items in
    let n : length c.in_ok-status.status.loaded.items ≡ count_of load = (subst L c.loaded-loaded.ensures.load c.in_ok-status.ensures.loaded).units in
    let refuses : length c.in_ok-status.status.manual.items ≡ count_of load = (subst R c.loaded-loaded.ensures.load c.in_ok-status.ensures.manual).units in
    let P : LoadMap → Type 0 = λ m. AreBitsBy m (is_perpetual_by m.viewer.profile) c.in_ok-status.status.perpetual.items in
    let perpetual : length c.in_ok-status.status.perpetual.items ≡ count_of load = (subst P c.loaded-loaded.ensures.load c.in_ok-status.ensures.perpetual).units in
    let T : ℕ → Type 0 = λ k. c.unwrap-target.result < k in
    let S : List (List (List ℕ)) → ℕ → Type 0 = λ successors k. AreSuccessorsOf k successors in
    let W : List (List ℕ) → ℕ → Type 0 = λ adjacency k. AreAdjacencyOf k adjacency in
    let inverses = c.loaded-loaded.ensures.inverses in
    let order = c.loaded-loaded.ensures.order in
    let needs = c.in_ok-needing.ensures in
    let ties = c.in_ok-tying.ensures in
    record {
      valid_target = subst T (sym n) index.index_is.below;
      valid_refuses = refuses ∙ sym n;
      valid_running = c.in_ok-running.ensures.units ∙ ap length c.deref.ensures.value ∙ perpetual ∙ sym n;
      valid_perpetual = perpetual ∙ sym n;
      valid_needs = subst (S c.in_ok-needing.needing.successors) (sym n) needs.within;
      valid_needed_by = subst (S c.in_ok-needing.needing.inverses) (sym n) needs.inverses_within;
      valid_wants = subst (S c.in_ok-asked.asked.wants) (sym n) c.in_ok-asked.ensures.wants_within;
      valid_requisites = subst (S c.in_ok-asked.asked.requisites) (sym n) c.in_ok-asked.ensures.requisites_within;
      valid_conflicts = subst (W c.adjacency.result.now) (sym n) c.adjacency.ensures.adjacency;
      valid_conflicted_by = subst (W c.adjacency-2.result.now) (sym n) c.adjacency-2.ensures.adjacency;
      valid_predecessors = subst (W c.adjacency-3.result.now) (sym n) c.adjacency-3.ensures.adjacency;
      valid_successors = subst (W c.adjacency-4.result.now) (sym n) c.adjacency-4.ensures.adjacency;
      predecessors_transposed = transposed_from c.adjacency-3.result.now c.adjacency-4.result.now c.adjacency-3.ensures.ascending c.adjacency-4.ensures.ascending
          (opposite_is (neighbors c.adjacency-3.result.now) (neighbors c.adjacency-4.result.now) (opposite_successors graph inverses (After ∷ []) (neighbors c.adjacency-3.result.now) (neighbors c.adjacency-4.result.now) order c.adjacency-3.ensures.successors c.adjacency-4.ensures.successors
          (λ u v. neighbors-start (count_of load) c.adjacency-3.result.now u v c.adjacency-3.ensures.adjacency) (λ u v. neighbors-start (count_of load) c.adjacency-4.result.now u v c.adjacency-4.ensures.adjacency)));
      valid_takes = subst (S c.in_ok-tying.tying.inverses) (sym n) ties.inverses_within;
      needs_transposed = opposite_successors graph inverses needing (successors_from c.in_ok-needing.needing.successors) (successors_from c.in_ok-needing.needing.inverses) order needs.successors needs.inverses
          (λ u v. successors-start (count_of load) c.in_ok-needing.needing.successors u v needs.within) (λ u v. successors-start (count_of load) c.in_ok-needing.needing.inverses u v needs.inverses_within);
      conflicts_transposed = opposite_successors graph inverses (Conflicts ∷ []) (neighbors c.adjacency.result.now) (neighbors c.adjacency-2.result.now) order c.adjacency.ensures.successors c.adjacency-2.ensures.successors
          (λ u v. neighbors-start (count_of load) c.adjacency.result.now u v c.adjacency.ensures.adjacency) (λ u v. neighbors-start (count_of load) c.adjacency-2.result.now u v c.adjacency-2.ensures.adjacency);
      stops_transposed = opposite_successors graph inverses tying (successors_from c.in_ok-tying.tying.successors) (successors_from c.in_ok-tying.tying.inverses) order ties.successors ties.inverses
          (λ u v. successors-start (count_of load) c.in_ok-tying.tying.successors u v ties.within) (λ u v. successors-start (count_of load) c.in_ok-tying.tying.inverses u v ties.inverses_within);
    }
