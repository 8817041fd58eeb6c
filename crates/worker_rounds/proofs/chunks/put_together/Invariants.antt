use Rattle.worker_rounds.proofs.Prelude.{IsJoined}
use Rattle.worker_rounds.proofs.chunks.put_together.Given as goal

abbrev pub invariant-loop-part : goal.invariant-loop-part
invariant-loop-part g l = IsJoined l.yielded l.all.items
