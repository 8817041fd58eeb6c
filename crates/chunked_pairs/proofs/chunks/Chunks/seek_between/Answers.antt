use Rattle.chunked_pairs.proofs.Prelude.{run_is}
use Rattle.chunked_pairs.proofs.chunks.Chunks.seek_between.Goals as goal

pub search_by-requires : goal.search_by-requires
search_by-requires g c = record { sorted = rw c.run.ensures.run (run_is g.K.Ord.cmp g.met.K.Ord.total c.args.self.now.0 c.args.self.now.1 c.run_of-run.result c.run_of-run.ensures.within c.requires.chunks.chained).sorted }
