use Rattle.std.proofs.Common.{◌≡◌}
use Rattle.delta_gossip.proofs.{Rounds.{spread_to}}
use Rattle.delta_gossip.proofs.sweeps.spread.Given as goal

abbrev pub invariant-loop-replica : goal.invariant-loop-replica
invariant-loop-replica l = l.rest ≡ spread_to l.first.store l.fn.rest l.replica-index
