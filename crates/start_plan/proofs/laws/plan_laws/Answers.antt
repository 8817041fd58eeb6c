use Rattle.start_plan.proofs.Prelude.{one_case, one_plan, one_refusal_returned, perpetual_units_never_stop, plan_or_refusal, plans_by_files_keep_promises, plans_keep_promises}
use Rattle.start_plan.proofs.laws.plan_laws.Goals as goal

pub returns : goal.returns
returns c = record { plan = one_plan; refusal = one_refusal_returned; either = plan_or_refusal; case = one_case; promises = plans_keep_promises; by_files = plans_by_files_keep_promises; perpetual = perpetual_units_never_stop }
