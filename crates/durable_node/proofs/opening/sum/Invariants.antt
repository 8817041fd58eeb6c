use Rattle.std.proofs.Common.{◌≡◌, ◌++◌, length, List}
use Rattle.edit_sums.specs.Sums.{sum_of}
use Rattle.edit_log.specs.declared.logs.LogRow.{LogRow}
use Rattle.edit_log.specs.Logs.{edits_in}
use Rattle.durable_node.proofs.opening.sum.Given as goal

abbrev pub decreases-rows : goal.decreases-rows
decreases-rows l = length l.rows.items

abbrev pub invariant-rows : goal.invariant-rows
invariant-rows l = (done : List LogRow) × (l.fn.rows.items ≡ l.rows.items ++ done) × (l.store ≡ sum_of (edits_in done))
