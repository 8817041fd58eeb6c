use Rattle.std.proofs.Common.{◌<◌, ◌≡◌}
use Rattle.start_order.proofs.Prelude.{get_or, ℕ}
use Rattle.start_order.proofs.cycles.position_of.Given as goal

abbrev pub invariant-loop-i : goal.invariant-loop-i
invariant-loop-i l = (k : ℕ) → k < l.i → ¬ (get_or l.list k 0 ≡ l.node)
