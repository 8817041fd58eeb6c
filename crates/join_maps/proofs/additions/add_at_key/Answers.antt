use Rattle.std.proofs.Common.{◌∷◌, ◌≡◌}
use Rattle.join_maps.proofs.Prelude.{[], sym, ◌∙◌}
use Rattle.chunked_pairs.specs.Chunks.{run_at}
use Rattle.join_law.specs.OutcomeLaws.{by_outcome, on_err, on_err_weaker, on_ok_weaker}
use Rattle.join_maps.proofs.RunSteps.{edit_between, edit_joined, edit_mapped, find_in_run, first_is, IsRunEdit, join_between, more_is, put_same, room_for_key, run_is_map, swap_back}
use Rattle.join_maps.proofs.additions.add_at_key.Given.{Over}
use Rattle.join_maps.proofs.additions.add_at_key.Goals as goal

pub join_at_key-outcome-requires-clause-map : goal.join_at_key-outcome-requires-clause-map
join_at_key-outcome-requires-clause-map g c = rw (first_is c.place_for.new.chunks c.swap.new.self c.in_ok-position.position.run c.chunks.inside.first.items _ c.chunks.view_is c.swap.ensures.swapped)
    (run_is_map g.K.Ord.cmp g.met.K.Ord.total g.A.Value.Join.is_valid g.A.Value.Join.below g.met.A.Value.Join.reflexive g.met.A.Value.Join.transitive g.A.Value.Join.join g.met.A.Value.Join.joins c.place_for.new.chunks c.in_ok-position.ensures.map c.in_ok-position.position.run c.in_ok-position.ensures.position.within)

pub swap-requires-2 : goal.swap-requires-2
swap-requires-2 g c = record { within = more_is c.place_for.new.chunks c.swap.new.self c.in_ok-position.position.run c.chunks.inside.first.items _ c.chunks.view_is c.swap.ensures.swapped c.in_ok-position.ensures.position.within }

first : (g : Over) (c : goal.After-swap-2 g) → c.chunks.inside.first.items ≡ run_at c.place_for.new.chunks.0 c.place_for.new.chunks.1 c.in_ok-position.position.run
first g c = first_is c.place_for.new.chunks c.swap.new.self c.in_ok-position.position.run c.chunks.inside.first.items _ c.chunks.view_is c.swap.ensures.swapped

edit : (g : Over) (c : goal.After-swap-2 g) → IsRunEdit g.K.Ord.cmp g.A.Value.Join.is_valid g.A.Value.Join.below c.place_for.new.chunks c.in_ok-position.position.run ((c.args.key, g.A.Addition.added c.args.addition) ∷ []) c.join_at_key-outcome.new.pairs.items c.swap-2.new.self
edit g c = record {
  mapped = c.in_ok-position.ensures.map;
  within = c.in_ok-position.ensures.position.within;
  falls = (c.in_ok-position.ensures.position.falls, tt);
  room = room_for_key g.K.Ord.cmp g.met.K.Ord.total g.A.Value.Join.is_valid g.A.Value.Join.below g.met.A.Value.Join.reflexive g.met.A.Value.Join.transitive g.A.Value.Join.join g.met.A.Value.Join.joins c.place_for.new.chunks c.in_ok-position.ensures.map c.in_ok-position.position.run c.in_ok-position.ensures.position.within c.args.key (g.A.Addition.added c.args.addition) c.in_ok-position.ensures.position.room;
  map = c.join_at_key-outcome.ensures.map;
  between = by_outcome c.join_at_key-outcome.result
      (join_between g.K.Ord.cmp g.A.Value.Join.below g.met.A.Value.Join.reflexive g.met.A.Value.Join.transitive _ _ _)
      (λ between. between)
      (rw (first g c) at c.join_at_key-outcome.ensures.ok) (rw (first g c) at c.join_at_key-outcome.ensures.refused);
  put_is = swap_back c.place_for.new.chunks c.swap.new.self c.swap-2.new.self c.in_ok-position.position.run c.chunks.inside.first.items c.join_at_key-outcome.new.pairs.items _ c.chunks.view_is c.swap.ensures.swapped c.in_ok-position.ensures.position.within c.swap-2.ensures.swapped;
}

pub returns-clause-map : goal.returns-clause-map
returns-clause-map g c = edit_mapped g.K.Ord.cmp g.met.K.Ord.total g.A.Value.Join.is_valid g.A.Value.Join.below g.met.A.Value.Join.reflexive g.met.A.Value.Join.transitive g.A.Value.Join.join g.met.A.Value.Join.joins _ _ _ _ _ (edit g c)

pub returns-clause-ok : goal.returns-clause-ok
returns-clause-ok g c = rw (sym c.in_ok-position.ensures.same) (on_ok_weaker c.join_at_key-outcome.result
    (edit_joined g.K.Ord.cmp g.met.K.Ord.total g.A.Value.Join.is_valid g.A.Value.Join.below g.met.A.Value.Join.reflexive g.met.A.Value.Join.transitive g.A.Value.Join.join g.met.A.Value.Join.joins _ _ _ _ _ (edit g c))
    (rw (first g c) at c.join_at_key-outcome.ensures.ok))

pub returns-clause-refused : goal.returns-clause-refused
returns-clause-refused g c = rw (sym c.in_ok-position.ensures.same) (on_err c.join_at_key-outcome.result
    (edit_between g.K.Ord.cmp g.met.K.Ord.total g.A.Value.Join.is_valid g.A.Value.Join.below g.met.A.Value.Join.reflexive g.met.A.Value.Join.transitive g.A.Value.Join.join g.met.A.Value.Join.joins _ _ _ _ _ (edit g c)))

pub returns-clause-single : goal.returns-clause-single
returns-clause-single g c =
    on_err_weaker c.join_at_key-outcome.result
    (λ same single. put_same _ _ c.in_ok-position.position.run _ (edit g c).put_is (same single) ∙ c.in_ok-position.ensures.same)
    (rw (first g c) at c.join_at_key-outcome.ensures.single)

pub returns-clause-added : goal.returns-clause-added
returns-clause-added g c = rw (sym c.in_ok-position.ensures.same) (rw (find_in_run g.K.Ord.cmp g.met.K.Ord.total g.A.Value.Join.is_valid g.A.Value.Join.below g.met.A.Value.Join.reflexive g.met.A.Value.Join.transitive g.A.Value.Join.join g.met.A.Value.Join.joins c.place_for.new.chunks c.in_ok-position.ensures.map c.in_ok-position.position.run c.in_ok-position.ensures.position.within c.args.key c.in_ok-position.ensures.position.falls)
    (rw (first g c) at c.join_at_key-outcome.ensures.added))

pub returns-clause-in_place : goal.returns-clause-in_place
returns-clause-in_place g c = rw (sym c.in_ok-position.ensures.same) (rw (find_in_run g.K.Ord.cmp g.met.K.Ord.total g.A.Value.Join.is_valid g.A.Value.Join.below g.met.A.Value.Join.reflexive g.met.A.Value.Join.transitive g.A.Value.Join.join g.met.A.Value.Join.joins c.place_for.new.chunks c.in_ok-position.ensures.map c.in_ok-position.position.run c.in_ok-position.ensures.position.within c.args.key c.in_ok-position.ensures.position.falls)
    (rw (first g c) at c.join_at_key-outcome.ensures.in_place))
