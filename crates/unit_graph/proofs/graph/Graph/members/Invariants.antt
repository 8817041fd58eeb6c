use Rattle.std.proofs.Common.{◌≡◌}
use Rattle.unit_graph.proofs.Prelude.{map, take}
use Rattle.unit_graph.proofs.graph.Graph.members.Given as goal

abbrev pub invariant-loop-unit : goal.invariant-loop-unit
invariant-loop-unit l = l.names.items ≡ map (λ u. u.now.name) (take l.unit-index l.unit-items)
