use Rattle.unit_graph.proofs.Prelude.{AreNamedSuccessors, AreSuccessorsOf, count_of, LeadsBy, name_at, Named, successors_from, take}
use Rattle.unit_graph.proofs.indexed_graph.IndexedGraph.successors.Given as goal

abbrev pub invariant-loop-kind : goal.invariant-loop-kind
invariant-loop-kind l = record {
  successors : AreNamedSuccessors (count_of l.self.load) (name_at l.self.load) (Named (successors_from l.successors)) (LeadsBy l.self.edges (take l.kind-index l.kinds));
  within : AreSuccessorsOf (count_of l.self.load) l.successors;
}
