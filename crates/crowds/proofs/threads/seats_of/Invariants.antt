use Rattle.std.proofs.Common.{◌≡◌}
use Rattle.crowds.proofs.Prelude.{AreFresh, length}
use Rattle.crowds.proofs.threads.seats_of.Given as goal

abbrev pub invariant-loop-worker : goal.invariant-loop-worker
invariant-loop-worker g l = record { count : length l.seats.items ≡ l.worker; fresh : AreFresh l.seats.items }
