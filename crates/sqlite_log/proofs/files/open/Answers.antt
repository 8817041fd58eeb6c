use Rattle.sqlite_log.proofs.files.open.Goals as goal

pub returns-clause-found : goal.returns-clause-found
returns-clause-found g c clean = record {
  was = c.in_ok-conn.conn;
  found = c.in_ok-conn.ensures.found (c.in_ok-log.ensures.clean clean);
  same = c.in_ok-log.ensures.same clean;
}

pub find-requires : goal.find-requires
find-requires g c = record { opened = λ clean. (c.in_ok-conn.ensures.opened clean).0 }
