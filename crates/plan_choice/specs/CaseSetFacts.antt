-- The sets and edges that belong to a case. Only a private type cites this.
use Rattle.std.proofs.Common.{◌∷◌}
use Rattle.plan_choice.specs.Prelude.{[], Bool, List, ℕ}
use Rattle.plan_choice.specs.{BitSets.{AreBitsOf, ArePairsOf}, declared.cases.IndexedCase.{IndexedCase}, IndexedCases.{case_of, count_of}, Sets.{AreInConflict, IsNeeded}, Soundness.{IsIdle}, Walks.{IsGoing}}

-- the sets of the units that aren't running, of those from which what began at the target goes on, and of those that the
-- target needs, and edges to the units in conflict
pub record AreCaseSets (adjacency : IndexedCase) (idle going needed : List Bool) (conflicting : List (List (List ℕ))) : Type 0 where
  pub at_idle : AreBitsOf (count_of adjacency) (IsIdle (count_of adjacency) (case_of adjacency)) idle
  pub at_going : AreBitsOf (count_of adjacency) (IsGoing (count_of adjacency) (case_of adjacency) (adjacency.target ∷ [])) going
  pub at_needed : AreBitsOf (count_of adjacency) (IsNeeded (case_of adjacency)) needed
  pub to_conflicting : ArePairsOf (count_of adjacency) (AreInConflict (case_of adjacency)) conflicting
