use Rattle.std.proofs.Common.{◌≡◌}
use Rattle.unit_graph.proofs.{Prelude.{ap, edge_map, EdgeMap, GraphMap, keys_of, List, Name, sym, table_of_edges, ◌∙◌}, Stepping.{same_graph}}
use Rattle.unit_graph.proofs.graph.Graph.indexed.Goals as goal

pub build-requires : goal.build-requires
build-requires c = record { table = table_of_edges c.self.inside.loaded.now c.self.inside.edges.now c.table.result.now c.self.invariant c.table.ensures.adjacency }

pub returns : goal.returns
returns c =
    let load = c.self.inside.loaded.now in
    let edges : c.build.result.edges ≡ c.self.inside.edges.now =
    c.build.ensures.edges ∙ ap (λ (ks : List Name). edge_map ks c.table.result.now) (sym c.self.invariant.names) ∙ sym c.table.ensures.edges in
    record { graph = same_graph c.build.result _ c.build.ensures.load edges ∙ c.self.view_is }
