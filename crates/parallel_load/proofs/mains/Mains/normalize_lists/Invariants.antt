use Rattle.std.proofs.Common.{◌++◌, ◌≡◌}
use Rattle.parallel_load.proofs.Prelude.{flat_map, list_indices, list_normalized, map, take}
use Rattle.parallel_load.proofs.mains.Mains.normalize_lists.Given as goal

abbrev pub invariant-loop-list : goal.invariant-loop-list
invariant-loop-list l = record {
  normalized : l.normalized.items ≡ map (list_normalized l.self l.unit) (take l.list-index l.lists);
  deps : l.deps ≡ l.initial.deps ++ flat_map (list_indices l.self l.unit) (take l.list-index l.lists);
}
