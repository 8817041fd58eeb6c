use Rattle.unit_loads.proofs.Prelude.{[], ap, DependencyList, DepKind, map, take_all, ◌∙◌}
use Rattle.unit_loads.proofs.loads.lists_without_names.Goals as goal

pub returns : goal.returns
returns c = record {
  lists = c.loop-kind.invariant.0 ∙ ap (map (λ (dep : DepKind). let r : DependencyList = record { kind = dep; names = [] } in r)) (take_all c.loop-kind.kind-index c.naming-kind-items.result.now c.loop-kind-test.false ∙ c.loop-kind.invariant.1);
}
