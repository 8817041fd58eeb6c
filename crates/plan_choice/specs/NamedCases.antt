-- A case over indexed units, and the same case over their names.
-- Source: this project's own.
use Rattle.std.proofs.Common.{◌<◌, ◌≡◌}
use Rattle.plan_choice.specs.{Answers.{conflict, cycle, manual_start, need_fault, Refusal, requisite, target_fault}, Case.{Case}, Prelude.{AreNamedSuccessors, AreNames, IsTrue, map, Named, ℕ}}

-- Only the named units with an index are loaded, running or perpetual, and the names in a list of a named unit are those of the
-- indices in its list.
pub record IsNamedCase {N : Type 0} (count : ℕ) (name : ℕ → N) (indices : Case ℕ) (names : Case N) : Type 0 where
  pub below : indices.target < count
  pub profile : indices.profile ≡ names.profile
  pub target : name indices.target ≡ names.target
  pub refuses : names.refuses_manual_start names.target ≡ indices.refuses_manual_start indices.target
  pub loaded : AreNames count name (λ i. IsTrue (indices.is_loaded i)) (λ u. IsTrue (names.is_loaded u))
  pub running : AreNames count name (λ i. IsTrue (indices.is_running i)) (λ u. IsTrue (names.is_running u))
  pub perpetual : AreNames count name (λ i. IsTrue (indices.is_perpetual i)) (λ u. IsTrue (names.is_perpetual u))
  pub needs : AreNamedSuccessors count name (Named indices.needs) (Named names.needs)
  pub wants : AreNamedSuccessors count name (Named indices.wants) (Named names.wants)
  pub requisites : AreNamedSuccessors count name (Named indices.requisites) (Named names.requisites)
  pub conflicts : AreNamedSuccessors count name (Named indices.conflicts) (Named names.conflicts)
  pub predecessors : AreNamedSuccessors count name (Named indices.predecessors) (Named names.predecessors)
  pub stops_with : AreNamedSuccessors count name (Named indices.stops_with) (Named names.stops_with)

-- the refusal with names in place of indices
abbrev pub named_refusal : {N : Type 0} → (ℕ → N) → Refusal ℕ → Refusal N
named_refusal name (target_fault u) = target_fault (name u)
named_refusal name (need_fault u) = need_fault (name u)
named_refusal name manual_start = manual_start
named_refusal name (requisite u v) = requisite (name u) (name v)
named_refusal name (conflict u v) = conflict (name u) (name v)
named_refusal name (cycle list) = cycle (map name list)
