use Rattle.worked_calls.proofs.ranges.append_within.Goals as goal

pub within-it-items-requires : goal.within-it-items-requires
within-it-items-requires c = record { sorted = rw c.deref.ensures.value c.in_ok-all.ensures.sorted }
