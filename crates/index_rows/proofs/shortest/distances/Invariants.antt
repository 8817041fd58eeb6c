use Rattle.std.proofs.Common.{◌+◌}
use Rattle.index_rows.proofs.{Levels.{IsLevel}, Prelude.{length, successors_from, unset}}
use Rattle.index_rows.proofs.shortest.distances.Given as goal

abbrev pub invariant-loop-alloc : goal.invariant-loop-alloc
invariant-loop-alloc l = IsLevel l.count (successors_from l.successors) l.sources l.distance l.seen.items l.level.items l.pairs.items

abbrev pub decreases-loop-alloc : goal.decreases-loop-alloc
decreases-loop-alloc l = unset l.seen.items + length l.level.items
