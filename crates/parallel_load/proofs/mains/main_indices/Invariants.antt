use Rattle.parallel_load.proofs.Prelude.{AreIndexed, take}
use Rattle.parallel_load.proofs.mains.main_indices.Given as goal

abbrev pub invariant-loop-index : goal.invariant-loop-index
invariant-loop-index l = AreIndexed l.names (take l.index l.names) l.indices.items
