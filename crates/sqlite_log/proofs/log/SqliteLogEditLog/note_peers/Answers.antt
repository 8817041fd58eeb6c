use Rattle.std.proofs.Common.{ap}
use Rattle.sqlite.specs.Held.{state}
use Rattle.sqlite_log.specs.Cells.{rows_in}
use Rattle.sqlite_log.proofs.Steps.{left_meeting}
use Rattle.sqlite_log.proofs.log.SqliteLogEditLog.note_peers.Goals as goal

pub returns-in-Ok-clause-held : goal.returns-in-Ok-clause-held
returns-in-Ok-clause-held g c clean = ap rows_in (c.in-Ok.ensures.added clean).rows

pub returns-in-Ok-clause-crash : goal.returns-in-Ok-clause-crash
returns-in-Ok-clause-crash g c clean = left_meeting (state g.S.Store c.args.self.now.conn) (state g.S.Store c.add_peers.new.conn) c.args.met.now c.add_peers.ensures.crash clean

pub returns-in-Err-clause-crash : goal.returns-in-Err-clause-crash
returns-in-Err-clause-crash g c clean = left_meeting (state g.S.Store c.args.self.now.conn) (state g.S.Store c.add_peers.new.conn) c.args.met.now c.add_peers.ensures.crash clean
