use Rattle.unit_graph.proofs.Prelude.{all_edges}
use Rattle.unit_graph.proofs.indexed_graph.IndexedGraph.build.Goals as goal

pub returns-clause-all : goal.returns-clause-all
returns-clause-all c = all_edges c.args.loaded.now c.args.table.now c.requires.table
