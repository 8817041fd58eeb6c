use Rattle.std.proofs.Common.{◌++◌, ◌≡◌}
use Rattle.parallel_load.proofs.Prelude.{dependency_of, map, other_indices, other_mains, take}
use Rattle.parallel_load.proofs.mains.Mains.normalize_list.Given as goal

abbrev pub invariant-loop-name : goal.invariant-loop-name
invariant-loop-name l = record {
  mains : l.mains.items ≡ other_mains l.self l.unit (take l.name-index l.name-items);
  deps : l.deps ≡ l.initial.deps ++ map (dependency_of l.kind) (other_indices l.self l.unit (take l.name-index l.name-items));
}
