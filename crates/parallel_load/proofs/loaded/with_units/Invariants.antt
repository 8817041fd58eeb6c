use Rattle.std.proofs.Common.{◌≡◌}
use Rattle.parallel_load.proofs.Prelude.{with_loads}
use Rattle.parallel_load.proofs.loaded.with_units.Given as goal

abbrev pub invariant-loop-index : goal.invariant-loop-index
invariant-loop-index l = l.names.items ≡ with_loads l.fn.names.items l.yielded
