use Rattle.std.proofs.Common.{◌<◌, ◌≤◌}
use Rattle.start_order.proofs.Prelude.{get_or, length, ℕ}
use Rattle.start_order.proofs.cycles.least_at.Given as goal

abbrev pub invariant-loop-i : goal.invariant-loop-i
invariant-loop-i l = record {
  within : l.at < length l.list;
  least : (k : ℕ) → k < l.i → get_or l.list l.at 0 ≤ get_or l.list k 0;
}
