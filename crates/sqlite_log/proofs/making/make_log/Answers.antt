use Rattle.std.proofs.Common.{sym, ◌∙◌, ap}
use Rattle.sqlite.specs.Held.{state}
use Rattle.sqlite_log.specs.Cells.{rows_in}
use Rattle.sqlite_log.specs.Tables.{no_schema}
use Rattle.sqlite_log.proofs.Steps.{opened_with}
use Rattle.sqlite_log.proofs.making.make_log.Goals as goal

pub make-requires : goal.make-requires
make-requires g c = record { blank = λ clean. opened_with no_schema (state g.S.Store c.args.conn.now) (c.requires.opened clean) (sym c.schema.ensures.value ∙ c.is_blank.ensures.blank c.if-not-is_blank.false) }

pub returns-in-Ok-clause-log : goal.returns-in-Ok-clause-log
returns-in-Ok-clause-log g c clean = (c.in-Ok.ensures.log clean, c.in-Ok.ensures.head clean)

pub returns-in-Ok-clause-empty : goal.returns-in-Ok-clause-empty
returns-in-Ok-clause-empty g c clean = ap rows_in (c.in-Ok.ensures.empty clean)
