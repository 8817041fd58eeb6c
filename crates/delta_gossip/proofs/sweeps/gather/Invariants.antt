use Rattle.std.proofs.Common.{◌≡◌}
use Rattle.delta_gossip.proofs.{Prelude.{with_store}, Rounds.{gathered}}
use Rattle.delta_gossip.proofs.sweeps.gather.Given as goal

abbrev pub invariant-loop-replica : goal.invariant-loop-replica
invariant-loop-replica l = l.first ≡ with_store (gathered l.fn.first l.rest l.replica-index) l.fn.first
