use Rattle.start_plan.proofs.Prelude.{HasTemplate, take}
use Rattle.start_plan.proofs.checks.has_template.Given as goal

abbrev pub invariant-loop-name : goal.invariant-loop-name
invariant-loop-name l = ¬ HasTemplate (take l.name-index l.names)
