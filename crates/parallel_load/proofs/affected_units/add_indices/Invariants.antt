use Rattle.parallel_load.proofs.Prelude.{AreNoted, GrowsWithin, length}
use Rattle.parallel_load.proofs.affected_units.add_indices.Given as goal

abbrev pub invariant-loop-index : goal.invariant-loop-index
invariant-loop-index l = GrowsWithin (length l.names) l.initial.affected.items l.affected.items × AreNoted l.names l.affected.items l.part l.ending l.fn.indices.start l.index
