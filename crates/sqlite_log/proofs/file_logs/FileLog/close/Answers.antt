use Rattle.std.proofs.Common.{refl}
use Rattle.sqlite_log.proofs.file_logs.FileLog.close.Goals as goal

pub returns-in-Ok-clause-alone : goal.returns-in-Ok-clause-alone
returns-in-Ok-clause-alone g c clean =
    let copied = c.in-Ok.ensures.copied clean in
    let taken = c.into_conn.ensures.conn in
    rw (← taken) (record {
      trees = _;
      seen = copied.seen;
      left = copied.left;
      heads = rw taken (c.requires.running (rw (← taken) copied.was_clean)).1;
      holds = refl;
      knows = refl;
    })

pub returns-in-Ok-clause-clean : goal.returns-in-Ok-clause-clean
returns-in-Ok-clause-clean g c clean = rw (← c.into_conn.ensures.conn) (c.in-Ok.ensures.copied clean).was_clean
