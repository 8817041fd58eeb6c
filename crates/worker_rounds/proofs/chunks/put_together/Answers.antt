use Rattle.worker_rounds.proofs.Joining.{joined_more}
use Rattle.worker_rounds.proofs.chunks.put_together.Goals as goal

pub loop-part-preserved : goal.loop-part-preserved
loop-part-preserved g c = rw (c.in_ok-append.ensures.items, c.in_ok-more.was) (joined_more _ _ _ c.loop-part.invariant)
