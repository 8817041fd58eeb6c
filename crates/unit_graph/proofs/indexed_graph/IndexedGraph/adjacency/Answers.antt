use Rattle.unit_graph.proofs.{Prelude.{count_of, name_at, neighbors, neighbors-below, refl}, Stepping.{only_kind, table_neighbors}}
use Rattle.unit_graph.proofs.indexed_graph.IndexedGraph.adjacency.Goals as goal

pub returns-clause-successors : goal.returns-clause-successors
returns-clause-successors c =
    let load = c.args.self.now.load in
    let adjacency = c.table.result.now in
    let t = c.table.ensures.table in
    λ i l. only_kind load c.args.self.now.edges (name_at load i) c.args.kind (neighbors adjacency i)
    (table_neighbors load c.args.self.now.edges c.args.kind adjacency t i l (neighbors adjacency i) refl (λ v h. neighbors-below (count_of load) adjacency i v t.within.within h))

pub returns-clause-adjacency : goal.returns-clause-adjacency
returns-clause-adjacency c = c.table.ensures.table.within

pub returns-clause-ascending : goal.returns-clause-ascending
returns-clause-ascending c = c.table.ensures.table.ascending
