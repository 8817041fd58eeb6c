use Rattle.unit_graph.proofs.{Prelude.{all_edges, all_kept, AreAdjacencyBy, edge_map, GraphMap, IsTable, keys_of, List, subst, sym, ℕ}, Stepping.{table_of_adjacency}}
use Rattle.unit_graph.proofs.indexed_graph.IndexedGraph.table.Goals as goal

pub returns : goal.returns
returns c =
    let load = c.self.inside.loaded.now in
    let tables = c.self.inside.table.now in
    let edges = edge_map (keys_of load.names) tables in
    record {
      table = subst (λ (g : GraphMap). IsTable g.load g.edges c.args.kind c.adjacency.result.now) c.self.view_is
          (table_of_adjacency load edges c.args.kind c.adjacency.result.now (all_edges load tables c.self.invariant)
          (subst (λ (rs : List (List ℕ)). AreAdjacencyBy edges c.args.kind rs) (sym c.adjacency.ensures.adjacency) ((all_kept load tables c.self.invariant).adjacency.each c.args.kind)));
    }
