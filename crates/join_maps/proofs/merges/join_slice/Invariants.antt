use Rattle.join_maps.proofs.{Prelude.{AreMapped, length}, Slices.{IsPassed}}
use Rattle.chunked_pairs.specs.Chunks.{all_pairs}
use Rattle.join_maps.proofs.merges.join_slice.Given as goal

abbrev pub invariant-loop-left : goal.invariant-loop-left
invariant-loop-left g l = IsPassed g.K.Ord.cmp g.V.Join.below (all_pairs l.initial.chunks) (all_pairs l.chunks) l.pairs l.left × AreMapped g.K.Ord.cmp g.V.Join.below g.V.Join.is_valid l.chunks

abbrev pub decreases-loop-left : goal.decreases-loop-left
decreases-loop-left g l = length l.left
