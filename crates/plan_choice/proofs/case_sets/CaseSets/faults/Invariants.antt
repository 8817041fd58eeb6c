use Rattle.std.proofs.Common.{◌<◌, ◌↔◌}
use Rattle.plan_choice.proofs.Prelude.{case_of, IsAmong, IsSound, ℕ}
use Rattle.plan_choice.proofs.case_sets.CaseSets.faults.Given as goal

abbrev pub invariant-loop-unit : goal.invariant-loop-unit
invariant-loop-unit l = (v : ℕ) → IsAmong v l.units.items ↔ ((v < l.unit) × ¬ IsSound (case_of l.self) v)
