use Rattle.std.proofs.Common.{◌<◌}
use Rattle.parallel_load.proofs.Prelude.{All, AreReadOrLeft, host_view_of, length, take, with_loads}
use Rattle.parallel_load.proofs.patching.units_again.Given as goal

abbrev pub invariant-loop-index : goal.invariant-loop-index
invariant-loop-index l =
    All (λ u. u.0 < length l.names) l.units.items
    × AreReadOrLeft (host_view_of l.store l.viewer) l.kept.mains (take l.index-index l.affected) l.names l.named (with_loads l.names l.units.items)
