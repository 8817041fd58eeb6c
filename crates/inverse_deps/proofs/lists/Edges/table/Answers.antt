use Rattle.std.proofs.Common.{◌≡◌}
use Rattle.inverse_deps.proofs.Prelude.{AreAdjacencyByKinds, edge_map, EdgeMap, keys_of, subst}
use Rattle.inverse_deps.proofs.lists.Edges.table.Goals as goal

pub returns : goal.returns
returns c = record {
  edges = subst (λ (es : EdgeMap). es ≡ edge_map (keys_of es) c.self.inside.table) c.self.view_is c.self.invariant.edges_are;
  adjacency = subst (λ (es : EdgeMap). AreAdjacencyByKinds es c.self.inside.table) c.self.view_is c.self.invariant.adjacency;
}
