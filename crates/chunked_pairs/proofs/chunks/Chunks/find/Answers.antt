use Rattle.chunked_pairs.proofs.Prelude.{find_falls, run_is}
use Rattle.chunked_pairs.proofs.chunks.Chunks.find.Goals as goal

pub find_by-requires : goal.find_by-requires
find_by-requires g c =
    rw c.run.ensures.run
    (record { sorted = (run_is g.K.Ord.cmp g.met.K.Ord.total c.args.self.now.0 c.args.self.now.1 c.run_of.result c.run_of.ensures.within c.requires.chunks.chained).sorted })

pub returns : goal.returns
returns g c = record {
  found =
      rw (find_falls g.K.Ord.cmp g.met.K.Ord.total (g.S.Sought.key c.args.sought.now) c.args.self.now.0 c.args.self.now.1 c.run_of.result c.requires.chunks.chained c.run_of.ensures.falls)
      (rw c.run.ensures.run at c.find_by.ensures.found);
}
