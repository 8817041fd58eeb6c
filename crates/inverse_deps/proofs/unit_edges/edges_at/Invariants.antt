use Rattle.std.proofs.Common.{◌≡◌}
use Rattle.inverse_deps.proofs.Prelude.{All, AreEdgesFrom, DependencyList, map, name_at, take}
use Rattle.inverse_deps.proofs.unit_edges.edges_at.Given as goal

abbrev pub invariant-loop-kind : goal.invariant-loop-kind
invariant-loop-kind l = record {
  kinds_are : map (λ (list : DependencyList). list.kind) l.lists.items ≡ take l.kind-index l.kinds;
  each : All (λ (list : DependencyList). AreEdgesFrom l.loaded list.kind (name_at l.loaded l.index) list.names) l.lists.items;
}
