use Rattle.std.proofs.Common.{◌<◌}
use Rattle.plan_choice.proofs.Prelude.{IsAmong, IsMember, successors_from, ℕ}
use Rattle.plan_choice.proofs.case_sets.first_pair.Given as goal

abbrev pub invariant-loop-unit : goal.invariant-loop-unit
invariant-loop-unit l = (u v : ℕ) → u < l.unit → ¬ (IsMember l.sources u × IsAmong v (successors_from l.successors u) × IsMember l.bits v)
