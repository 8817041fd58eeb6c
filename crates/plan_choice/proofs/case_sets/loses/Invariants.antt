use Rattle.std.proofs.Common.{◌<◌}
use Rattle.plan_choice.proofs.Prelude.{get_or, IsMember, ℕ}
use Rattle.plan_choice.proofs.case_sets.loses.Given as goal

abbrev pub invariant-loop-other : goal.invariant-loop-other
invariant-loop-other l = (k : ℕ) → k < l.other-index → IsMember l.extra (get_or l.namers k 0) → ¬ (IsMember l.named (get_or l.namers k 0) → get_or l.namers k 0 < l.unit)
