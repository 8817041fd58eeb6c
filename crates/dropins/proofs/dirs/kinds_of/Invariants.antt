use Rattle.std.proofs.Common.{◌≡◌}
use Rattle.dropins.proofs.Prelude.{map, take, types_of, word}
use Rattle.dropins.proofs.dirs.kinds_of.Given as goal

abbrev pub invariant-loop-name : goal.invariant-loop-name
invariant-loop-name l = map word l.kinds.items ≡ types_of (take l.name-index l.names)
