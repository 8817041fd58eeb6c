use Rattle.std.proofs.Common.{◌++◌, ◌≡◌, codes, take}
use Rattle.tree_files.specs.Manifests.{lines_text}
use Rattle.tree_files.proofs.manifests.manifest_of.Given as goal

abbrev pub invariant-loop-path : goal.invariant-loop-path
invariant-loop-path l = l.out.items ≡ codes "fleet tree 1\n" ++ lines_text (take l.path-index l.paths)
