use Rattle.std.proofs.Common.{◌≡◌, ◌++◌, length, map}
use Rattle.edit_sums.specs.Sums.{edit_of, edits_of}
use Rattle.durable_node.proofs.compaction.held_edits.Given as goal

abbrev pub invariant-loop-placed : goal.invariant-loop-placed
invariant-loop-placed l = l.edits.items ++ map edit_of l.left ≡ edits_of l.fn.store

abbrev pub decreases-loop-placed : goal.decreases-loop-placed
decreases-loop-placed l = length l.left
