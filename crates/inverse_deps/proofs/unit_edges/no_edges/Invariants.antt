use Rattle.std.proofs.Common.{◌≡◌}
use Rattle.inverse_deps.proofs.Prelude.{[], All, DependencyList, map, take}
use Rattle.inverse_deps.proofs.unit_edges.no_edges.Given as goal

abbrev pub invariant-loop-kind : goal.invariant-loop-kind
invariant-loop-kind l = record {
  kinds_are : map (λ (list : DependencyList). list.kind) l.lists.items ≡ take l.kind-index l.kinds;
  none : All (λ (list : DependencyList). list.names ≡ []) l.lists.items;
}
