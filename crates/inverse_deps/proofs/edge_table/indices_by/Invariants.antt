use Rattle.inverse_deps.proofs.Prelude.{AreIndicesBy, take}
use Rattle.inverse_deps.proofs.edge_table.indices_by.Given as goal

abbrev pub invariant-loop-dep : goal.invariant-loop-dep
invariant-loop-dep l = AreIndicesBy (take l.dep-index l.deps) l.kind l.indices.items
