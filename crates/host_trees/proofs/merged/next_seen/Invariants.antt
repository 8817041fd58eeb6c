use Rattle.std.proofs.Common.{◌≡◌}
use Rattle.host_trees.proofs.Prelude.{length, option_copied, seen_in}
use Rattle.host_trees.proofs.merged.next_seen.Given as goal

abbrev pub invariant-loop-placed : goal.invariant-loop-placed
invariant-loop-placed l = seen_in (option_copied l.fn.scope) l.entries ≡ seen_in (option_copied l.fn.scope) l.initial.entries

abbrev pub decreases-loop-placed : goal.decreases-loop-placed
decreases-loop-placed l = length l.entries
