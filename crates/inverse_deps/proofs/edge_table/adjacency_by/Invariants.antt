use Rattle.inverse_deps.proofs.Prelude.{AreMade, IsKindList, links_in}
use Rattle.inverse_deps.proofs.edge_table.adjacency_by.Given as goal

abbrev pub invariant-loop-deps : goal.invariant-loop-deps
invariant-loop-deps l = AreMade (IsKindList (links_in l.links) l.kind) l.deps-index l.adjacency
