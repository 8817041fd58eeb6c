use Rattle.name_closure.proofs.Prelude.{All, AreLoads}
use Rattle.name_closure.proofs.loads.load_each.Given as goal

abbrev pub invariant-loop-node : goal.invariant-loop-node
invariant-loop-node g l = record {
  loads : AreLoads (g.L.Loads.is_loaded l.loader) l.yielded l.pairs.items;
  left : All (g.L.Loads.is_node l.loader) l.node-iterator.rest.items;
}
