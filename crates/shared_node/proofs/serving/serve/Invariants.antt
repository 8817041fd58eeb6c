use Rattle.std.proofs.Common.{◌+◌, ◌≡◌, ◌≤◌}
use mathlib.Core.List.{IsPrefix}
use Rattle.shared_node.proofs.serving.serve.Given as goal

abbrev pub invariant-loop-number : goal.invariant-loop-number
invariant-loop-number g l =
    (l.seat.calls ≡ l.fn.seat.calls + (l.served.answered + l.served.pending))
    × ((l.served.answered + l.served.pending) + l.served.refused ≤ l.number)
    × IsPrefix l.fn.seat.seen l.seat.seen
    × (l.seat.number ≡ l.fn.seat.number)
