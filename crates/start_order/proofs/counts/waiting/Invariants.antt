use Rattle.std.proofs.Common.{◌≡◌, ◌≤◌}
use Rattle.start_order.proofs.Prelude.{take, waiting_of}
use Rattle.start_order.proofs.counts.waiting.Given as goal

abbrev pub invariant-loop-other : goal.invariant-loop-other
invariant-loop-other l = record {
  counted : l.count ≡ waiting_of l.chosen l.standing (take l.other-index l.nodes);
  short : l.count ≤ l.other-index;
}
