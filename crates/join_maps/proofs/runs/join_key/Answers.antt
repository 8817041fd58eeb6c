use Rattle.std.proofs.Common.{rules, ◌∷◌, ◌≡◌}
use Rattle.join_maps.proofs.Prelude.{[], ap, refl, sym, zero, ◌∙◌}
use Rattle.chunked_pairs.specs.Chunks.{all_pairs, run_at}
use Rattle.join_law.specs.{EditLaws.{refused_is_join}, OutcomeLaws.{by_fault, if_err_weaker, on_ok_weaker}}
use Rattle.join_maps.proofs.RunSteps.{edit_joined, edit_mapped, edit_partly, find_in_run, first_is, IsRunEdit, join_between, more_is, partly_between, put_same, room_for_key, run_is_map, swap_back}
use Rattle.join_maps.proofs.runs.join_key.Given.{Over}
use Rattle.join_maps.proofs.runs.join_key.Goals as goal

pub join_pair-outcome-requires-clause-map : goal.join_pair-outcome-requires-clause-map
join_pair-outcome-requires-clause-map g c = rw (first_is c.place_for.new.chunks c.swap.new.self c.in-Ok.position.run c.chunks.inside.first.items _ c.chunks.view_is c.swap.ensures.swapped)
    (run_is_map g.K.Ord.cmp g.met.K.Ord.total g.V.Join.is_valid g.V.Join.below g.met.V.Join.reflexive g.met.V.Join.transitive g.V.Join.join g.met.V.Join.joins c.place_for.new.chunks c.in-Ok.ensures.map c.in-Ok.position.run c.in-Ok.ensures.position.within)

pub join_pair-outcome-requires-clause-at_within : goal.join_pair-outcome-requires-clause-at_within
join_pair-outcome-requires-clause-at_within g c = rw (first_is c.place_for.new.chunks c.swap.new.self c.in-Ok.position.run c.chunks.inside.first.items _ c.chunks.view_is c.swap.ensures.swapped) c.in-Ok.ensures.position.at_within

pub join_pair-outcome-requires-clause-gap_within : goal.join_pair-outcome-requires-clause-gap_within
join_pair-outcome-requires-clause-gap_within g c = rw (first_is c.place_for.new.chunks c.swap.new.self c.in-Ok.position.run c.chunks.inside.first.items _ c.chunks.view_is c.swap.ensures.swapped) c.in-Ok.ensures.position.gap_within

pub swap-requires-in-Ok : goal.swap-requires-in-Ok
swap-requires-in-Ok g c = record { within = more_is c.place_for.new.chunks c.swap.new.self c.in-Ok.position.run c.chunks.inside.first.items _ c.chunks.view_is c.swap.ensures.swapped c.in-Ok.ensures.position.within }

first : (g : Over) (c : goal.After-swap-in-Ok g) → c.chunks.inside.first.items ≡ run_at c.place_for.new.chunks.0 c.place_for.new.chunks.1 c.in-Ok.position.run
first g c = first_is c.place_for.new.chunks c.swap.new.self c.in-Ok.position.run c.chunks.inside.first.items _ c.chunks.view_is c.swap.ensures.swapped

edit : (g : Over) (c : goal.After-swap-in-Ok g) → IsRunEdit g.K.Ord.cmp g.V.Join.is_valid g.V.Join.below c.place_for.new.chunks c.in-Ok.position.run ((c.args.key, c.args.value) ∷ []) c.join_pair-outcome.new.pairs.items c.swap-in-Ok.new.self
edit g c = record {
  mapped = c.in-Ok.ensures.map;
  within = c.in-Ok.ensures.position.within;
  falls = (c.in-Ok.ensures.position.falls, tt);
  room = room_for_key g.K.Ord.cmp g.met.K.Ord.total g.V.Join.is_valid g.V.Join.below g.met.V.Join.reflexive g.met.V.Join.transitive g.V.Join.join g.met.V.Join.joins c.place_for.new.chunks c.in-Ok.ensures.map c.in-Ok.position.run c.in-Ok.ensures.position.within c.args.key c.args.value c.in-Ok.ensures.position.room;
  map = c.join_pair-outcome.ensures.map;
  between = by_fault c.join_pair-outcome.result
      (join_between g.K.Ord.cmp g.V.Join.below g.met.V.Join.reflexive g.met.V.Join.transitive _ _ _)
      (λ fault. partly_between g.K.Ord.cmp g.V.Join.below _ _ _ (fault.rest ∷ []))
      (rw (first g c) at c.join_pair-outcome.ensures.ok) (rw (first g c) at c.join_pair-outcome.ensures.refused);
  put_is = swap_back c.place_for.new.chunks c.swap.new.self c.swap-in-Ok.new.self c.in-Ok.position.run c.chunks.inside.first.items c.join_pair-outcome.new.pairs.items _ c.chunks.view_is c.swap.ensures.swapped c.in-Ok.ensures.position.within c.swap-in-Ok.ensures.swapped;
}

pub returns-in-Ok-clause-map : goal.returns-in-Ok-clause-map
returns-in-Ok-clause-map g c = edit_mapped g.K.Ord.cmp g.met.K.Ord.total g.V.Join.is_valid g.V.Join.below g.met.V.Join.reflexive g.met.V.Join.transitive g.V.Join.join g.met.V.Join.joins _ _ _ _ _ (edit g c)

pub returns-in-Ok-clause-joined : goal.returns-in-Ok-clause-joined
returns-in-Ok-clause-joined g c = record {
  ok = rw (sym c.in-Ok.ensures.same) (on_ok_weaker c.join_pair-outcome.result
      (edit_joined g.K.Ord.cmp g.met.K.Ord.total g.V.Join.is_valid g.V.Join.below g.met.V.Join.reflexive g.met.V.Join.transitive g.V.Join.join g.met.V.Join.joins _ _ _ _ _ (edit g c))
      (rw (first g c) at c.join_pair-outcome.ensures.ok));
  added = rw (sym c.in-Ok.ensures.same) (rw (find_in_run g.K.Ord.cmp g.met.K.Ord.total g.V.Join.is_valid g.V.Join.below g.met.V.Join.reflexive g.met.V.Join.transitive g.V.Join.join g.met.V.Join.joins c.place_for.new.chunks c.in-Ok.ensures.map c.in-Ok.position.run c.in-Ok.ensures.position.within c.args.key c.in-Ok.ensures.position.falls)
      (rw (first g c) at c.join_pair-outcome.ensures.added));
  key = c.join_pair-outcome.ensures.key;
  refused = rw (sym c.in-Ok.ensures.same) (if_err_weaker c.join_pair-outcome.result
      (λ fault. edit_partly g.K.Ord.cmp g.met.K.Ord.total g.V.Join.is_valid g.V.Join.below g.met.V.Join.reflexive g.met.V.Join.transitive g.V.Join.join g.met.V.Join.joins _ _ _ _ _ (edit g c) (fault.rest ∷ []))
      (rw (first g c) at c.join_pair-outcome.ensures.refused));
  left = c.join_pair-outcome.ensures.left;
  rest_valid = c.join_pair-outcome.ensures.rest_valid;
  single = if_err_weaker c.join_pair-outcome.result
      (λ fault same single. put_same _ _ c.in-Ok.position.run _ (edit g c).put_is (same single) ∙ c.in-Ok.ensures.same)
      (rw (first g c) at c.join_pair-outcome.ensures.single);
  in_place = rw (sym c.in-Ok.ensures.same) (rw (find_in_run g.K.Ord.cmp g.met.K.Ord.total g.V.Join.is_valid g.V.Join.below g.met.V.Join.reflexive g.met.V.Join.transitive g.V.Join.join g.met.V.Join.joins c.place_for.new.chunks c.in-Ok.ensures.map c.in-Ok.position.run c.in-Ok.ensures.position.within c.args.key c.in-Ok.ensures.position.falls)
      (rw (first g c) at c.join_pair-outcome.ensures.in_place));
}

pub returns-in-Err-clause-joined : goal.returns-in-Err-clause-joined
returns-in-Err-clause-joined g c = record {
  ok = tt;
  added = tt;
  key = refl;
  refused = rw c.in-Err.ensures.err
      (refused_is_join g.K.Ord.cmp g.met.K.Ord.total g.V.Join.is_valid g.V.Join.below g.met.V.Join.reflexive g.met.V.Join.transitive c.args.key (all_pairs c.args.chunks.now) zero c.requires.map.map c.args.value (λ least. let t = c.if-is_bottom.ensures.least.1 least in cc (t)));
  left = λ least. let t = c.if-is_bottom.ensures.least.1 least in cc (t);
  rest_valid = search rules;
  single = λ single. ap all_pairs c.in-Err.ensures.err;
  in_place = λ in_place known. cc (c.in-Err.ensures.known known);
}
