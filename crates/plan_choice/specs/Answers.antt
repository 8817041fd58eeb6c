-- What planning answers: what stops and starts, or the first refusal whose cause holds.
-- Source: this project's own.
use Rattle.std.proofs.Common.{◌<◌, ◌≡◌}
use Rattle.plan_choice.specs.Prelude.{false, IsClosure, IsCycle, IsLeast, IsStartList, IsStuck, IsTrue, List, Ordering, ℕ}
use Rattle.plan_choice.specs.{Case.{Case}, Sets.{AreInConflict, IsNeeded, IsStoppedByConflict, Lacks, Precedes, Starts, TakesAlong}}
pub use Rattle.plan_choice.specs.declared.answers.PlanRefusal.{PlanRefusal as Refusal, TheVariants.{Conflict as conflict, Cycle as cycle, ManualStart as manual_start, Need as need_fault, Requisite as requisite, Target as target_fault}}

-- The order in which the causes are tested.
abbrev pub rank : {N : Type 0} → Refusal N → ℕ
rank (target_fault u) = 1
rank (need_fault u) = 2
rank manual_start = 3
rank (requisite u v) = 4
rank (conflict u v) = 5
rank (cycle list) = 6

module _ {N : Type 0} (order : N → N → Ordering) where
  -- the first pair of a relation, by the first unit and then by the second
  pub record IsFirstPair (relation : N → N → Type 0) (u v : N) : Type 0 where
    pub outer : IsLeast order (λ x. (y : N) × relation x y) u
    pub inner : IsLeast order (relation u) v

  module _ (c : Case N) where
    abbrev pub IsUnloadedNeed : N → Type 0
    IsUnloadedNeed u = IsNeeded c u × (c.is_loaded u ≡ false)

    abbrev pub LacksRequisite : N → N → Type 0
    LacksRequisite u v = IsNeeded c u × Lacks c u v

    abbrev pub AreNeededConflicts : N → N → Type 0
    AreNeededConflicts u v = IsNeeded c u × IsNeeded c v × AreInConflict c u v

    -- started units that wait for each other
    abbrev pub WaitsForever : N → Type 0
    WaitsForever = IsStuck (Starts order c) (Precedes c)

    -- the cause of the refusal holds, for the units that it names
    abbrev pub Stands : Refusal N → Type 0
    Stands (target_fault u) = (u ≡ c.target) × (c.is_loaded c.target ≡ false)
    Stands (need_fault u) = IsLeast order IsUnloadedNeed u
    Stands manual_start = IsTrue (c.refuses_manual_start c.target)
    Stands (requisite u v) = IsFirstPair LacksRequisite u v
    Stands (conflict u v) = IsFirstPair AreNeededConflicts u v
    Stands (cycle list) = IsCycle order WaitsForever (Precedes c) list

    -- No cause of lesser rank holds.
    pub record IsClearBelow (k : ℕ) : Type 0 where
      pub target_loaded : 1 < k → IsTrue (c.is_loaded c.target)
      pub needs_loaded : 2 < k → (u : N) → IsNeeded c u → IsTrue (c.is_loaded u)
      pub may_start : 3 < k → c.refuses_manual_start c.target ≡ false
      pub requisites_there : 4 < k → (u v : N) → IsNeeded c u → ¬ Lacks c u v
      pub at_peace : 5 < k → (u v : N) → IsNeeded c u → IsNeeded c v → ¬ AreInConflict c u v
      pub none_waits : 6 < k → (u : N) → ¬ WaitsForever u

    -- its cause holds, and none that is tested before it does
    pub record IsRefusal (refusal : Refusal N) : Type 0 where
      pub stands : Stands refusal
      pub clear : IsClearBelow (rank refusal)

    -- no cause holds; what stops is listed in ascending order, and what starts in its start order
    pub record IsPlan (stops starts : List N) : Type 0 where
      pub clear : IsClearBelow 7
      pub stopped : IsClosure (IsStoppedByConflict order c) (TakesAlong order c) order stops
      pub started : IsStartList order (Starts order c) (Precedes c) starts
