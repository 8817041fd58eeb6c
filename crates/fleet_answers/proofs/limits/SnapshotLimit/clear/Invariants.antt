use Rattle.std.proofs.Common.{◌≡◌}
use Rattle.fleet_answers.proofs.limits.SnapshotLimit.clear.Given as goal

abbrev pub invariant-loop-one : goal.invariant-loop-one
invariant-loop-one l = l.replicas ≡ l.fn.replicas
