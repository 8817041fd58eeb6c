use Rattle.std.proofs.Common.{◌<◌, ◌↔◌, ◌≡◌}
use Rattle.index_rows.proofs.Prelude.{IsMember, length, ℕ}
use Rattle.index_rows.proofs.bits.without.Given as goal

abbrev pub invariant-loop-node : goal.invariant-loop-node
invariant-loop-node l = record {
  units : length l.left.items ≡ l.node;
  bits : (v : ℕ) → v < l.node → IsMember l.left.items v ↔ (IsMember l.bits v × ¬ IsMember l.others v);
}
