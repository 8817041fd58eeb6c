use Rattle.std.proofs.Common.{◌≡◌, ◌≤◌}
use Rattle.crowds.proofs.Prelude.{own_edits}
use Rattle.crowds.proofs.workers.work.Given as goal

abbrev pub invariant-loop-number : goal.invariant-loop-number
invariant-loop-number g l = record {
  number : l.seat.number ≡ l.fn.seat.number;
  calls : l.seat.calls ≡ l.number;
  own : l.number ≤ own_edits l.fn.seat.number l.seat.seen;
}
