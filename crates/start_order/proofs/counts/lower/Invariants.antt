use Rattle.start_order.proofs.Prelude.{IsLowered, take}
use Rattle.start_order.proofs.counts.lower.Given as goal

abbrev pub invariant-loop-other : goal.invariant-loop-other
invariant-loop-other l = IsLowered l.chosen (take l.other-index l.nodes) l.fn.counts.items l.counts.items l.fn.free l.free
