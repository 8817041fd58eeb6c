use Rattle.std.proofs.Common.{◌≡◌}
use Rattle.parallel_load.proofs.Prelude.{name_indices, name_lists, name_loads}
use Rattle.parallel_load.proofs.finishing.parts_of.Given as goal

abbrev pub invariant-loop-one : goal.invariant-loop-one
invariant-loop-one l = record {
  names : l.names.items ≡ name_loads l.yielded;
  named : l.named.items ≡ name_lists l.yielded;
  deps : l.deps.items ≡ name_indices l.yielded;
}
