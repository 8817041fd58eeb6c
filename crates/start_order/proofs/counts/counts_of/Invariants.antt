use Rattle.std.proofs.Common.{◌<◌, ◌≡◌}
use Rattle.start_order.proofs.Prelude.{get_or, length, neighbors, waiting_of, ℕ}
use Rattle.start_order.proofs.counts.counts_of.Given as goal

abbrev pub invariant-loop-node : goal.invariant-loop-node
invariant-loop-node l = record {
  units : length l.counts.items ≡ l.node;
  counted : (v : ℕ) → v < l.node → get_or l.counts.items v 0 ≡ waiting_of l.chosen l.standing (neighbors l.before v);
}
