use Rattle.chunked_pairs.proofs.Views.{falls_before, falls_behind, sorted_viewed}
use Rattle.chunked_pairs.proofs.chunks.run_among.Goals as goal

pub search_by-requires : goal.search_by-requires
search_by-requires g c = record { sorted = sorted_viewed g.K.Ord.cmp c.args.more.now c.requires.sorted }

pub returns-in-Ok-clause-falls : goal.returns-in-Ok-clause-falls
returns-in-Ok-clause-falls g c = falls_behind g.K.Ord.cmp g.met.K.Ord.total (g.S.Sought.key c.args.sought.now) c.args.more.now c.in-Ok.at c.requires.sorted c.in-Ok.ensures.found

pub returns-in-Err-clause-falls : goal.returns-in-Err-clause-falls
returns-in-Err-clause-falls g c = falls_before g.K.Ord.cmp g.met.K.Ord.total (g.S.Sought.key c.args.sought.now) c.args.more.now c.in-Err.at c.in-Err.ensures.absent
