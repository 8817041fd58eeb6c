use Rattle.std.proofs.Common.{◌≡◌}
use Rattle.dropins.proofs.Prelude.{dirs_with, map, take, word}
use Rattle.dropins.proofs.dirs.kind_dirs.Given as goal

abbrev pub invariant-loop-kind : goal.invariant-loop-kind
invariant-loop-kind l = l.dirs.items ≡ dirs_with l.ending (map word (take l.kind-index l.kinds))
