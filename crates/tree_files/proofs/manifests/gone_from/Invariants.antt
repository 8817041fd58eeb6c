use Rattle.std.proofs.Common.{◌≡◌, take}
use Rattle.std.specs.Prelude.{filter}
use Rattle.tree_files.specs.Manifests.{is_gone}
use Rattle.tree_files.proofs.manifests.gone_from.Given as goal

abbrev pub invariant-loop-path : goal.invariant-loop-path
invariant-loop-path l = l.gone.items ≡ filter (is_gone l.tree) (take l.path-index l.paths)
