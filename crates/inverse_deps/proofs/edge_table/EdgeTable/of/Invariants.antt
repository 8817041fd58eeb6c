use Rattle.inverse_deps.proofs.Prelude.{AreEdgeAdjacency, AreMade, Before, get_or}
use Rattle.inverse_deps.proofs.edge_table.EdgeTable.of.Given as goal

abbrev pub invariant-loop-kind : goal.invariant-loop-kind
invariant-loop-kind l = AreMade (λ k adjacency. AreEdgeAdjacency l.loaded (get_or l.all k Before) adjacency) l.kind-index l.by_kind.items
