use Rattle.std.proofs.Common.{ap, sym}
use Rattle.std.proofs.Math.Logic.{∥∥₁_map}
use Rattle.sqlite.specs.Files.{file_state}
use Rattle.sqlite.proofs.Theorems.{next_run}
use Rattle.sqlite_log.specs.States.{heads_in, log_in, peers_in}
use Rattle.sqlite_log.proofs.file_logs.FileLog.found_again.Goals as goal

pub returns : goal.returns
returns g c = record {
  found = rw (← c.into_conn.ensures.conn) (λ clean left may found. ∥∥₁_map
      (next_run c.into_store.result (c.into_store.ensures.numbered clean) (c.into_store.ensures.sound clean) left may (file_state found.was) found.found)
      (λ recovers. ((file_state found.was).committed.trees, c.into_store.ensures.quiet.outcomes _ recovers, ap log_in (sym found.same), ap heads_in (sym found.same), ap peers_in (sym found.same))));
}
