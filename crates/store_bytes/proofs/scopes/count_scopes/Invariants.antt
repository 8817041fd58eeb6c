use Rattle.std.proofs.Common.{◌≡◌, ◌+◌, ◌-◌, ◌≤◌, drop, length}
use Rattle.store_bytes.specs.Parts.{parted}
use Rattle.store_bytes.proofs.scopes.count_scopes.Given as goal

-- the scopes so far, and those of the rest
abbrev pub invariant-loop-start : goal.invariant-loop-start
invariant-loop-start l = (l.start ≤ length l.list) × ((l.count ≤ l.start) × (l.count + length (parted (drop l.start l.list)) ≡ length (parted l.list)))

abbrev pub decreases-loop-start : goal.decreases-loop-start
decreases-loop-start l = length l.list - l.start
