use Rattle.std.proofs.Common.{◌≡◌}
use Rattle.join_maps.proofs.Prelude.{find, find_gap, IsSome, None, subst, ◌∙◌}
use Rattle.chunked_pairs.specs.Chunks.{all_pairs}
use Rattle.join_maps.proofs.RunSteps.{at_some, find_in_run, run_is_map}
use Rattle.join_maps.proofs.runs.place_for.Goals as goal

pub returns-in-Ok-clause-position : goal.returns-in-Ok-clause-position
returns-in-Ok-clause-position g c = record {
  within = c.seek-position.ensures.within;
  falls = c.seek-position.ensures.falls;
  found = c.seek-position.ensures.found;
  absent = c.seek-position.ensures.absent;
  at_within = c.seek-position.ensures.at_within;
  gap_within = c.seek-position.ensures.gap_within;
  room = λ none. absurd (at_some g.K.Ord.cmp c.args.key.now _ _ (rw c.in-Ok.is at c.seek-position.ensures.found) none);
}

pub returns-else-takes_one-clause-known : goal.returns-else-takes_one-clause-known
returns-else-takes_one-clause-known g c = λ some.
    let chunks = c.args.chunks.now in
    let at = c.seek-position.result.run in
    let within = c.seek-position.ensures.within in
    let map = run_is_map g.K.Ord.cmp g.met.K.Ord.total g.V.Join.is_valid g.V.Join.below g.met.V.Join.reflexive g.met.V.Join.transitive g.V.Join.join g.met.V.Join.joins chunks c.requires.map at within in
    let none : find g.K.Ord.cmp c.args.key.now (all_pairs chunks) ≡ None =
    find_in_run g.K.Ord.cmp g.met.K.Ord.total g.V.Join.is_valid g.V.Join.below g.met.V.Join.reflexive g.met.V.Join.transitive g.V.Join.join g.met.V.Join.joins chunks c.requires.map at within c.args.key.now c.seek-position.ensures.falls
    ∙ find_gap g.K.Ord.cmp c.args.key.now g.met.K.Ord.total _ _ map.sorted (rw c.in-Err.is at c.seek-position.ensures.absent) in
    let t = subst IsSome none some in
    cc (t)
