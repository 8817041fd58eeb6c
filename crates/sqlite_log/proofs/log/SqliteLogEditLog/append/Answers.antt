use Rattle.sqlite.specs.Held.{state}
use Rattle.sqlite_log.proofs.Steps.{grows_held, left_held}
use Rattle.sqlite_log.proofs.log.SqliteLogEditLog.append.Goals as goal

pub returns-in-Ok-clause-held : goal.returns-in-Ok-clause-held
returns-in-Ok-clause-held g c clean = grows_held _ _ c.args.time c.args.edits.now c.note_edits.ensures.fits (c.in-Ok.ensures.added clean)

pub returns-in-Ok-clause-crash : goal.returns-in-Ok-clause-crash
returns-in-Ok-clause-crash g c clean = left_held (state g.S.Store c.args.self.now.conn) (state g.S.Store c.add_all.new.conn) c.args.time c.args.edits.now c.note_edits.ensures.fits c.add_all.ensures.crash clean

pub returns-in-Err-clause-crash : goal.returns-in-Err-clause-crash
returns-in-Err-clause-crash g c clean = left_held (state g.S.Store c.args.self.now.conn) (state g.S.Store c.add_all.new.conn) c.args.time c.args.edits.now c.note_edits.ensures.fits c.add_all.ensures.crash clean
