-- The answer to a request: the plan, or the refusal whose cause is the first that holds.
-- Source: this project's own.
use Rattle.std.proofs.Common.{◌≡◌, ◌⊎◌}
use Rattle.start_plan.specs.Prelude.{Cause, conflict, cycle, EdgeMap, IsPlan, IsRefusal, LoadMap, manual_start, Name, name_cmp, need_fault, requisite, Some, status_in, target_fault, Why}
use Rattle.start_plan.specs.{declared.requests.{Plan.{Plan}, Refusal.{Refusal, TheVariants.{Bad, Conflict, Cycle, ManualStart, Masked, Memory, NotFound, Requisite, Template}}, Request.{Request}}, Requests.{AsksTemplate, case_of}}
use Rattle.unit_loads.specs.declared.units.Status.TheVariants as status

module _ (load : LoadMap) (edges : EdgeMap) (request : Request) where
  -- no name is a template, no cause of a refusal holds, and this is what stops and starts
  pub record IsPlanned (plan : Plan) : Type 0 where
    pub no_template : ¬ AsksTemplate request
    pub planned : IsPlan name_cmp (case_of load edges request) plan.stop plan.start

  -- no name is a template, and this is the first cause that holds
  pub record IsRefused (cause : Why Name) : Type 0 where
    pub no_template : ¬ AsksTemplate request
    pub refused : IsRefusal name_cmp (case_of load edges request) cause

  -- the target isn't loaded, or this is the least needed unit that isn't
  abbrev pub IsFault : Name → Type 0
  IsFault u = IsRefused (target_fault u) ⊎ IsRefused (need_fault u)

  -- This is the refusal. Running out of memory may replace any answer.
  abbrev pub IsRefusalOf : Refusal → Type 0
  IsRefusalOf Template = AsksTemplate request
  IsRefusalOf (NotFound u) = IsFault u × (status_in load u ≡ Some status.NotFound)
  IsRefusalOf (Masked u) = IsFault u × (status_in load u ≡ Some status.Masked)
  IsRefusalOf (Bad u) = IsFault u × ((cause : Cause) × (status_in load u ≡ Some (status.Bad cause)))
  IsRefusalOf ManualStart = IsRefused manual_start
  IsRefusalOf (Requisite u needs) = IsRefused (requisite u needs)
  IsRefusalOf (Conflict u conflicting_unit) = IsRefused (conflict u conflicting_unit)
  IsRefusalOf (Cycle units) = IsRefused (cycle units)
  IsRefusalOf Memory = Unit {0}
