use Rattle.sqlite_log.proofs.files.make_in.Goals as goal

pub make-requires : goal.make-requires
make-requires g c = record { opened = λ clean. (c.in_ok-conn.ensures.opened clean).0 }
