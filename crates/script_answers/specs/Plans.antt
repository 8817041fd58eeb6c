-- How a plan is written, or why there is none.
-- Source: systemctl(1), "start"; the texts are this project's own.
use Rattle.std.proofs.Common.{◌++◌, ◌≡◌}
use Rattle.script_answers.specs.Prelude.{Bad, codes, Conflict, Cycle, Err, Fault, flat_map, LineRefusal, List, ManualStart, Masked, Name, NotFound, Outcome, Plan, PlanRefusal, Requisite, Template, ℕ}
use Rattle.script_commands.specs.declared.commands.Fault.TheVariants as fault
use Rattle.start_plan.specs.declared.requests.Refusal.TheVariants as plan

-- ---- how a plan is written

-- a verb and a name
abbrev pub unit_line : List ℕ → Name → List ℕ
unit_line verb name = verb ++ name ++ codes "\n"

abbrev pub stop_line : Name → List ℕ
stop_line name = unit_line (codes "stop ") name

abbrev pub start_line : Name → List ℕ
start_line name = unit_line (codes "start ") name

-- a line for each unit that stops, and then one for each that starts
abbrev pub plan_text : Plan → List ℕ
plan_text plan = flat_map stop_line plan.stop ++ flat_map start_line plan.start ++ codes "end\n"

-- a refusal of a plan, as a fault of a command
abbrev pub fault_of_plan : PlanRefusal → Fault
fault_of_plan plan.Template = fault.Refused Template
fault_of_plan (plan.NotFound unit) = fault.Refused (NotFound unit)
fault_of_plan (plan.Masked unit) = fault.Refused (Masked unit)
fault_of_plan (plan.Bad unit) = fault.Refused (Bad unit)
fault_of_plan plan.ManualStart = fault.Refused ManualStart
fault_of_plan (plan.Requisite unit needs) = fault.Refused (Requisite unit needs)
fault_of_plan (plan.Conflict unit conflicting_unit) = fault.Refused (Conflict unit conflicting_unit)
fault_of_plan (plan.Cycle units) = fault.Refused (Cycle units)
fault_of_plan plan.Memory = fault.Memory

-- ---- how a refusal is written

-- the outcome is this refusal of a plan
pub record RefusesPlan (cause : PlanRefusal) (outcome : Outcome) : Type 0 where
  pub refusal : LineRefusal
  pub rendered : fault_of_plan cause ≡ fault.Refused refusal
  pub outcome_is : outcome ≡ Err refusal
