use Rattle.join_maps.proofs.RunSteps.{run_is_map}
use Rattle.join_maps.proofs.runs.cut_for.Goals as goal

pub seek_by-requires : goal.seek_by-requires
seek_by-requires g c = record {
  sorted = rw c.run.ensures.run
      (run_is_map g.K.Ord.cmp g.met.K.Ord.total g.V.Join.is_valid g.V.Join.below g.met.V.Join.reflexive g.met.V.Join.transitive g.V.Join.join g.met.V.Join.joins c.cut_for_key.new.self (record { chunks = c.in_ok-run.ensures.chunks; map = rw c.in_ok-run.ensures.same c.requires.map.map }) c.in_ok-run.run' c.in_ok-run.ensures.within).sorted;
}
