use Rattle.node_files.proofs.compaction.close.Goals as goal

pub close-requires : goal.close-requires
close-requires g c = record { running = rw c.into_log-log.ensures.log c.requires.running }

pub returns-clause-alone : goal.returns-clause-alone
returns-clause-alone g c = rw (← c.into_log-log.ensures.log) c.in_ok-files.ensures.alone
