use Rattle.std.proofs.Common.{◌≡◌}
use Rattle.dropins.proofs.Prelude.{dirs_with, take}
use Rattle.dropins.proofs.dirs.name_dirs.Given as goal

abbrev pub invariant-loop-name : goal.invariant-loop-name
invariant-loop-name l = l.dirs.items ≡ dirs_with l.ending (take l.name-index l.names)
