use Rattle.std.proofs.Common.{◌↔◌, ◌≡◌}
use Rattle.start_order.proofs.Prelude.{IsAmong, IsMember, IsWalk, length, Precedes, unset, ℕ}
use Rattle.start_order.proofs.cycles.walk.Given as goal

abbrev pub invariant-loop-met : goal.invariant-loop-met
invariant-loop-met l = record {
  units : length l.seen.items ≡ length l.stuck;
  agree : (v : ℕ) → IsMember l.seen.items v ↔ IsAmong v l.met.items;
  walk : IsWalk (IsMember l.stuck) (Precedes l.before) l.met.items l.next;
  stuck : IsMember l.stuck l.next;
}

abbrev pub decreases-loop-met : goal.decreases-loop-met
decreases-loop-met l = unset l.seen.items
