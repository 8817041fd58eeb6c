use Rattle.worked_calls.proofs.ranges.append_parts.Goals as goal

pub within-here-requires : goal.within-here-requires
within-here-requires c = record { sorted = rw c.deref.ensures.value c.in_ok-all.ensures.sorted }
