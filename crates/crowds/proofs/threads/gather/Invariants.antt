use Rattle.crowds.proofs.Prelude.{AreGathered}
use Rattle.crowds.proofs.threads.gather.Given as goal

abbrev pub invariant-loop-came : goal.invariant-loop-came
invariant-loop-came g l = AreGathered l.yielded l.seats.items
