use Rattle.std.proofs.Common.{◌≡◌}
use Rattle.parallel_load.proofs.Prelude.{map, normalized_name}
use Rattle.parallel_load.proofs.mains.Mains.normalize_all.Given as goal

abbrev pub invariant-loop-name : goal.invariant-loop-name
invariant-loop-name l = l.all.items ≡ map (normalized_name l.self) l.yielded
