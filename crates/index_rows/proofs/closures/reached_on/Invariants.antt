use Rattle.std.proofs.Common.{◌+◌}
use Rattle.index_rows.proofs.{Prelude.{LeadsOn, length, unset}, Works.{IsWork}}
use Rattle.index_rows.proofs.closures.reached_on.Given as goal

abbrev pub invariant-loop-node : goal.invariant-loop-node
invariant-loop-node l = IsWork (length l.going) (LeadsOn l.firm l.weak l.inside l.going) l.sources l.seen.items l.todo.items

abbrev pub decreases-loop-node : goal.decreases-loop-node
decreases-loop-node l = unset l.seen.items + length l.todo.items
