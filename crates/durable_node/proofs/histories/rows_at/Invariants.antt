use Rattle.std.proofs.Common.{◌≡◌, take}
use Rattle.durable_node.specs.Histories.{logged_at}
use Rattle.durable_node.proofs.histories.rows_at.Given as goal

abbrev pub invariant-loop-row : goal.invariant-loop-row
invariant-loop-row l = l.logged.items ≡ logged_at l.fn.place (take l.row-index l.rows)
