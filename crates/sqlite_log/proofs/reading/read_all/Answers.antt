use Rattle.std.proofs.Common.{◌≡◌, rules}
use Rattle.sqlite.specs.Held.{state}
use Rattle.sqlite_log.proofs.Steps.{if_ok_then, shown_held}
use Rattle.sqlite_log.proofs.reading.read_all.Goals as goal

pub returns-in-Ok-clause-rows : goal.returns-in-Ok-clause-rows
returns-in-Ok-clause-rows g c clean =
    let same : c.deref.result.now ≡ c.in-Ok.rows.items = search rules in
    if_ok_then c.read_rows.result _ _ (λ rows is. shown_held (state g.S.Store c.args.conn.now) c.in-Ok.rows.items rows.items (c.in-Ok.ensures.shown clean) (rw same at is)) c.read_rows.ensures.rows
