use Rattle.std.proofs.Common.{◌++◌, ◌≡◌}
use Rattle.host_trees.proofs.Prelude.{length, tree_of}
use Rattle.host_trees.proofs.merged.MergedPaths.tree.Given as goal

abbrev pub invariant-loop-tree : goal.invariant-loop-tree
invariant-loop-tree l = l.tree.items ++ tree_of l.self ≡ tree_of l.fn.self

abbrev pub decreases-loop-tree : goal.decreases-loop-tree
decreases-loop-tree l = length l.self
