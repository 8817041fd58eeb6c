use Rattle.std.proofs.Common.{◌≡◌}
use Rattle.inverse_deps.proofs.Prelude.{keys_of, list_from, map, take}
use Rattle.inverse_deps.proofs.building.lists_at.Given as goal

abbrev pub invariant-loop-kind : goal.invariant-loop-kind
invariant-loop-kind l = l.lists.items ≡ map (list_from (keys_of l.loaded.names) l.table l.index) (take l.kind-index l.kinds)
