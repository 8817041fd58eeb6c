use Rattle.start_order.proofs.{Prelude.{unset}, States.{IsState}}
use Rattle.start_order.proofs.orders.listed.Given as goal

abbrev pub invariant-loop-node : goal.invariant-loop-node
invariant-loop-node l = IsState l.chosen l.before l.standing.items l.counts.items l.list.items l.free

abbrev pub decreases-loop-node : goal.decreases-loop-node
decreases-loop-node l = unset l.standing.items
