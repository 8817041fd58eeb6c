use Rattle.std.proofs.Common.{◌<◌, ◌≡◌, ◌≤◌}
use Rattle.host_trees.proofs.Prelude.{false, get_or, is_slash, length, ℕ}
use Rattle.host_trees.proofs.links.after_slash.Given as goal

-- No byte from `end` on is a slash.
abbrev pub invariant-loop-end : goal.invariant-loop-end
invariant-loop-end l = (l.end ≤ length l.target) × ((k : ℕ) → l.end ≤ k → k < length l.target → is_slash (get_or l.target k 0) ≡ false)

abbrev pub decreases-loop-end : goal.decreases-loop-end
decreases-loop-end l = l.end
