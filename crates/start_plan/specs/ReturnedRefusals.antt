-- How a refusal over indices is given by name: words for private clauses.
-- Source: this project's own.
use Rattle.std.proofs.Common.{◌<◌, ◌≡◌}
use Rattle.start_plan.specs.Prelude.{All, Cause, conflict, count_of, cycle, false, IsUnitIn, LoadMap, manual_start, map, Name, name_at, need_fault, requisite, Some, status_in, target_fault, unit_in, Why, ℕ}
use Rattle.start_plan.specs.{declared.requests.Refusal.{Refusal, TheVariants.{Bad, Conflict, Cycle, ManualStart, Masked, Memory, NotFound, Requisite, Template}}, Requests.{is_loaded}}
use Rattle.unit_loads.specs.declared.units.Status.TheVariants as status

module _ (load : LoadMap) where
  -- the index of a unit that isn't loaded
  pub record IsUnloaded (index : ℕ) : Type 0 where
    pub below : index < count_of load
    pub unit : IsUnitIn load (name_at load index)
    pub unloaded : is_loaded (unit_in load (name_at load index)) ≡ false

  -- the indices in a refusal have names, and where it says that a unit isn't loaded, there is a unit that isn't
  abbrev pub IsReturnable : Why ℕ → Type 0
  IsReturnable (target_fault u) = IsUnloaded u
  IsReturnable (need_fault u) = IsUnloaded u
  IsReturnable manual_start = Unit {0}
  IsReturnable (requisite u v) = (u < count_of load) × (v < count_of load)
  IsReturnable (conflict u v) = (u < count_of load) × (v < count_of load)
  IsReturnable (cycle list) = All (λ i. i < count_of load) list

  -- the refusal says why this unit isn't loaded
  abbrev pub IsFaultOf : Name → Refusal → Type 0
  IsFaultOf u (NotFound v) = (v ≡ u) × (status_in load u ≡ Some status.NotFound)
  IsFaultOf u (Masked v) = (v ≡ u) × (status_in load u ≡ Some status.Masked)
  IsFaultOf u (Bad v) = (v ≡ u) × ((cause : Cause) × (status_in load u ≡ Some (status.Bad cause)))
  IsFaultOf u Template = ⊥
  IsFaultOf u ManualStart = ⊥
  IsFaultOf u (Requisite v w) = ⊥
  IsFaultOf u (Conflict v w) = ⊥
  IsFaultOf u (Cycle units) = ⊥
  IsFaultOf u Memory = ⊥

  -- the refusal by name says what that by index says
  abbrev pub IsReturnedBy : Why ℕ → Refusal → Type 0
  IsReturnedBy (target_fault u) refusal = IsFaultOf (name_at load u) refusal
  IsReturnedBy (need_fault u) refusal = IsFaultOf (name_at load u) refusal
  IsReturnedBy manual_start refusal = refusal ≡ ManualStart
  IsReturnedBy (requisite u v) refusal = refusal ≡ Requisite (name_at load u) (name_at load v)
  IsReturnedBy (conflict u v) refusal = refusal ≡ Conflict (name_at load u) (name_at load v)
  IsReturnedBy (cycle list) refusal = refusal ≡ Cycle (map (name_at load) list)
