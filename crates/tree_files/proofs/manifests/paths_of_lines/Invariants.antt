use Rattle.std.proofs.Common.{◌++◌, ◌≡◌, length}
use Rattle.tree_files.specs.Manifests.{lines_text}
use Rattle.tree_files.proofs.manifests.paths_of_lines.Given as goal

abbrev pub decreases-lines : goal.decreases-lines
decreases-lines l = length l.rest

abbrev pub invariant-lines : goal.invariant-lines
invariant-lines l = l.fn.lines ≡ lines_text l.paths.items ++ l.rest
