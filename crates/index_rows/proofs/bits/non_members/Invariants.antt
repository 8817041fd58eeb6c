use Rattle.std.proofs.Common.{◌<◌, ◌↔◌, ◌≡◌}
use Rattle.index_rows.proofs.Prelude.{IsMember, length, ℕ}
use Rattle.index_rows.proofs.bits.non_members.Given as goal

abbrev pub invariant-loop-is_member : goal.invariant-loop-is_member
invariant-loop-is_member l = record {
  units : length l.others.items ≡ l.is_member-index;
  bits : (v : ℕ) → IsMember l.others.items v ↔ ((v < l.is_member-index) × ¬ IsMember l.bits v);
}
