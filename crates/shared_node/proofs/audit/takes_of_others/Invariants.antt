use Rattle.std.proofs.Common.{◌+◌, ◌<◌, ◌≡◌}
use Rattle.shared_node.proofs.Prelude.{Agrees, SeatNow, slice_get, Some, sum_by, take, takes_in, ℕ}
use Rattle.shared_node.proofs.audit.takes_of_others.Given as goal

abbrev pub invariant-loop-seat : goal.invariant-loop-seat
invariant-loop-seat g l =
    (l.others + sum_by (λ s. s.calls) (take l.seat-index l.seats.items) ≡ takes_in l.account.takes)
    × ((k : ℕ) (s : SeatNow) → k < l.seat-index → slice_get l.seats.items k ≡ Some s → Agrees l.account.takes s)
