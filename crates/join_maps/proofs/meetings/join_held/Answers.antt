use Rattle.std.proofs.Common.{rules}
use Rattle.std.specs.Prelude.{zero}
use Rattle.join_maps.proofs.{HeldPairs.{map_of}, Prelude.{refl, sym}}
use Rattle.join_law.specs.EditLaws.{refused_is_join}
use Rattle.join_maps.specs.Held.{held_pairs}
use Rattle.join_maps.proofs.meetings.join_held.Goals as goal

pub returns-in-Ok-clause-joined : goal.returns-in-Ok-clause-joined
returns-in-Ok-clause-joined g c = rw (sym c.seat.ensures.same) c.join_seated.ensures.joined

pub returns-in-Err-clause-joined : goal.returns-in-Err-clause-joined
returns-in-Err-clause-joined g c = record {
  ok = tt;
  added = tt;
  key = refl;
  refused = rw c.seat.ensures.same
      (refused_is_join g.K.Ord.cmp g.met.K.Ord.total g.V.Join.is_valid g.V.Join.below g.met.V.Join.reflexive g.met.V.Join.transitive c.args.key (held_pairs c.args.held.now) zero (map_of g.K.Ord.cmp g.V.Join.below g.V.Join.is_valid c.args.held.now c.requires.map) c.args.value (λ least. let t = c.if-is_bottom.ensures.least.1 least in cc (t)));
  left = λ least. let t = c.if-is_bottom.ensures.least.1 least in cc (t);
  rest_valid = search rules;
  single = λ single. c.seat.ensures.same;
  in_place = λ in_place known. cc (c.seat.ensures.known known);
}
