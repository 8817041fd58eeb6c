use Rattle.std.proofs.Common.{◌≡◌, map, take, Some}
use Rattle.sqlite_log.specs.Cells.{cells_shown, row_in}
use Rattle.sqlite_log.proofs.reading.read_rows.Given as goal

abbrev pub invariant-loop-row : goal.invariant-loop-row
invariant-loop-row l = map (λ r. row_in (cells_shown r)) (take l.row-index l.rows) ≡ map Some l.read.items
