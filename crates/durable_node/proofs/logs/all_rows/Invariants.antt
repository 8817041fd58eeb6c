use Rattle.std.proofs.Common.{◌≡◌, take}
use Rattle.durable_node.specs.Histories.{logged_all}
use Rattle.durable_node.proofs.logs.all_rows.Given as goal

abbrev pub invariant-loop-row : goal.invariant-loop-row
invariant-loop-row l = l.logged.items ≡ logged_all (take l.row-index l.rows)
