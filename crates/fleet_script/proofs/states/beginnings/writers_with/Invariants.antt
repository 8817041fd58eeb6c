use Rattle.std.proofs.Common.{◌==◌, ◌||◌, ◌≡◌, map}
use Rattle.std.specs.BTreeSet.{contains}
use Rattle.fleet_script.proofs.{Beginnings.{is_written}, Prelude.{cond, edit_of, edits_of, length, nat_cmp, true, ℕ}}
use Rattle.fleet_script.proofs.states.beginnings.writers_with.Given as goal

abbrev pub invariant-loop-placed : goal.invariant-loop-placed
invariant-loop-placed l = (n : ℕ) → (contains nat_cmp l.writers n || is_written n (map edit_of l.left)) ≡ cond (l.fn.number == n) true (is_written n (edits_of l.fn.store))

abbrev pub decreases-loop-placed : goal.decreases-loop-placed
decreases-loop-placed l = length l.left
