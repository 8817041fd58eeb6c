use Rattle.crowds.proofs.Seated.{gathered_more}
use Rattle.crowds.proofs.threads.gather.Goals as goal

pub loop-came-preserved : goal.loop-came-preserved
loop-came-preserved g c = rw (c.in_ok-push.ensures.items, c.in_ok-came.was) (gathered_more _ _ _ c.loop-came.invariant)
