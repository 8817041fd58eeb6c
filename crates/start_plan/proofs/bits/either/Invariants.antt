use Rattle.std.proofs.Common.{◌<◌, ◌↔◌, ◌≡◌, ◌⊎◌}
use Rattle.start_plan.proofs.Prelude.{IsMember, length, ℕ}
use Rattle.start_plan.proofs.bits.either.Given as goal

abbrev pub invariant-loop-index : goal.invariant-loop-index
invariant-loop-index l = record {
  units : length l.all.items ≡ l.index;
  bits : (v : ℕ) → v < l.index → IsMember l.all.items v ↔ (IsMember l.bits v ⊎ IsMember l.others v);
}
