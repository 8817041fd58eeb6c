use Rattle.std.proofs.Common.{◌<◌, ◌↔◌}
use Rattle.plan_choice.proofs.Prelude.{IsAmong, IsMember, successors_from, ℕ}
use Rattle.plan_choice.proofs.case_sets.leading_into.Given as goal

abbrev pub invariant-loop-unit : goal.invariant-loop-unit
invariant-loop-unit l = (u : ℕ) → IsAmong u l.units.items ↔ ((u < l.unit) × (IsMember l.sources u × ((v : ℕ) × (IsAmong v (successors_from l.successors u) × IsMember l.bits v))))
