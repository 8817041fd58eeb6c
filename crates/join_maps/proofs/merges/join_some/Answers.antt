use Rattle.join_maps.proofs.Prelude.{arith}
use Rattle.join_law.specs.OutcomeLaws.{on_err}
use Rattle.join_maps.proofs.{RunSteps.{is_run}, Slices.{fewer_keys, room_for_some, taken_below, taken_between, taken_is_map}}
use Rattle.join_maps.proofs.merges.join_some.Goals as goal

pub room_in-requires : goal.room_in-requires
room_in-requires g c = record {
  within = rw c.run.ensures.run
      (is_run g.K.Ord.cmp g.met.K.Ord.total g.V.Join.is_valid g.V.Join.below g.met.V.Join.reflexive g.met.V.Join.transitive g.V.Join.join g.met.V.Join.joins c.place_for.new.chunks c.in_ok-at.ensures.map c.in_ok-at.field-0.run c.in_ok-at.ensures.position.within).within;
}

pub join_in_run-requires-clause-pairs_map : goal.join_in_run-requires-clause-pairs_map
join_in_run-requires-clause-pairs_map g c = taken_is_map g.K.Ord.cmp g.met.K.Ord.total g.V.Join.is_valid g.V.Join.below g.met.V.Join.reflexive g.met.V.Join.transitive c.args.pairs.now c.min-count.result c.requires.pairs_map

pub join_in_run-requires-clause-falls : goal.join_in_run-requires-clause-falls
join_in_run-requires-clause-falls g c = fewer_keys _ c.args.pairs.now c.min-count.result c.fitting.result (omega (arith, c.min-count.ensures)) c.fitting.ensures.falls

pub join_in_run-requires-clause-room : goal.join_in_run-requires-clause-room
join_in_run-requires-clause-room g c =
    room_for_some g.K.Ord.cmp _ c.args.pairs.now c.index-pairs-0.result c.min-count.result c.room_in.result c.requires.some (omega (arith, c.min-count.ensures))
    (rw c.run.ensures.run at c.room_in.ensures.room) (rw c.run.ensures.run at c.room_in.ensures.full) c.in_ok-at.ensures.position.room

pub returns-in_err-join_in_run-clause-refused : goal.returns-in_err-join_in_run-clause-refused
returns-in_err-join_in_run-clause-refused g c =
    on_err _ (taken_between g.K.Ord.cmp g.met.K.Ord.total g.V.Join.is_valid g.V.Join.below g.met.V.Join.reflexive g.met.V.Join.transitive _ c.args.pairs.now _ c.min-count.result c.requires.pairs_map (rw c.in_ok-at.ensures.same at c.in_err-join_in_run.ensures.joined).refused)

pub returns-in_err-join_in_run-clause-known : goal.returns-in_err-join_in_run-clause-known
returns-in_err-join_in_run-clause-known g c = λ known.
    let ok = (rw c.in_ok-at.ensures.same at c.in_err-join_in_run.ensures.known) (taken_below g.K.Ord.cmp g.met.K.Ord.total g.V.Join.is_valid g.V.Join.below g.met.V.Join.reflexive g.met.V.Join.transitive c.args.pairs.now c.min-count.result _ c.requires.pairs_map known) in
    cc (ok)
