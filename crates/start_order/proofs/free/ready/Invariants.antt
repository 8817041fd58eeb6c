use Rattle.std.proofs.Common.{◌<◌, ◌↔◌, ◌≡◌}
use Rattle.start_order.proofs.Prelude.{get_or, IsMember, length, ℕ}
use Rattle.start_order.proofs.free.ready.Given as goal

abbrev pub invariant-loop-node : goal.invariant-loop-node
invariant-loop-node l = record {
  units : length l.bits.items ≡ l.node;
  bits : (v : ℕ) → v < l.node → IsMember l.bits.items v ↔ (IsMember l.chosen v × (get_or l.counts v 0 ≡ 0));
}
