use Rattle.join_maps.proofs.{Prelude.{length}, Slices.{IsPassed}}
use Rattle.join_maps.specs.Held.{held_pairs, IsHeldMap}
use Rattle.join_maps.proofs.meetings.join_all_copies.Given as goal

abbrev pub invariant-loop-run : goal.invariant-loop-run
invariant-loop-run g l = IsPassed g.K.Ord.cmp g.V.Join.below (held_pairs l.initial.held) (held_pairs l.held) l.other l.left × IsHeldMap g.K.Ord.cmp g.V.Join.below g.V.Join.is_valid l.held

abbrev pub decreases-loop-run : goal.decreases-loop-run
decreases-loop-run g l = length l.left
