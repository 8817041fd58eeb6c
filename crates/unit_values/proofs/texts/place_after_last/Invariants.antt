use Rattle.std.proofs.Common.{◌<◌, ◌==◌, ◌≡◌, ◌≤◌}
use Rattle.unit_values.proofs.Prelude.{false, get_or, length, ℕ}
use Rattle.unit_values.proofs.texts.place_after_last.Given as goal

-- no byte from the end on is the mark
abbrev pub invariant-loop-end : goal.invariant-loop-end
invariant-loop-end l = (l.end ≤ length l.bytes) × ((k : ℕ) → l.end ≤ k → k < length l.bytes → (get_or l.bytes k 0 == l.mark) ≡ false)

abbrev pub decreases-loop-end : goal.decreases-loop-end
decreases-loop-end l = l.end
