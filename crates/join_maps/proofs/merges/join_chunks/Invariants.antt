use Rattle.join_maps.proofs.{Ends.{IsUnderWay}, Prelude.{length}}
use Rattle.chunked_pairs.specs.Chunks.{all_pairs, AreChunks}
use Rattle.join_maps.proofs.merges.join_chunks.Given as goal

abbrev pub invariant-loop-chunks : goal.invariant-loop-chunks
invariant-loop-chunks g l = IsUnderWay g.K.Ord.cmp g.V.Join.is_valid g.V.Join.below g.V.Join.is_single (all_pairs l.initial.chunks) (all_pairs l.initial.other) (all_pairs l.chunks) (all_pairs l.other)
    × (AreChunks g.K.Ord.cmp l.chunks × AreChunks g.K.Ord.cmp l.other)

abbrev pub decreases-loop-chunks : goal.decreases-loop-chunks
decreases-loop-chunks g l = length (all_pairs l.other)
