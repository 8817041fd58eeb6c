use Rattle.std.proofs.Common.{◌++◌, ◌≡◌}
use Rattle.inverse_deps.proofs.Prelude.{drop, edge_map, edges_from, keys_of}
use Rattle.inverse_deps.proofs.building.unit_lists.Given as goal

-- with the edges of the names that are left, these are all edges
abbrev pub invariant-loop-index : goal.invariant-loop-index
invariant-loop-index l =
    l.units.items ++ edges_from (keys_of l.loaded.names) l.table l.index (drop l.index (keys_of l.loaded.names)) ≡ edge_map (keys_of l.loaded.names) l.table
