use Rattle.parallel_load.proofs.Prelude.{AreOwnersNoted, GrowsWithin, length}
use Rattle.parallel_load.proofs.affected_units.add_owners.Given as goal

abbrev pub invariant-loop-place : goal.invariant-loop-place
invariant-loop-place l = GrowsWithin (length l.names) l.initial.affected.items l.affected.items × AreOwnersNoted l.names l.second l.affected.items l.part l.ending l.fn.places.start l.place
