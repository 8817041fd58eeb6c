use Rattle.std.proofs.Common.{slice_index_or}
use Rattle.join_maps.proofs.Prelude.{ap, find_at, is_none_or, Some, sym, zero, ◌∙◌}
use Rattle.join_law.specs.{EditLaws.{added_with, between_is_between, between_is_map, joined_is_join, joined_is_map}, OutcomeLaws.{by_outcome, if_ok_weaker, on_err_weaker, on_ok_weaker}}
use Rattle.join_maps.proofs.additions.add_to_value.Goals as goal

pub returns-clause-ok : goal.returns-clause-ok
returns-clause-ok g c =
    on_ok_weaker c.join_to.result
    (joined_is_join g.K.Ord.cmp g.met.K.Ord.total g.A.Value.Join.is_valid g.A.Value.Join.below g.met.A.Value.Join.reflexive g.met.A.Value.Join.transitive c.args.key _ _ c.requires.map _ c.requires.found (ap (slice_index_or c.args.pairs.now zero) c.index-pairs-0.is) (g.A.Addition.added c.args.addition) _)
    c.join_to.ensures.ok

pub returns-clause-refused : goal.returns-clause-refused
returns-clause-refused g c =
    on_err_weaker c.join_to.result
    (between_is_between g.K.Ord.cmp g.met.K.Ord.total g.A.Value.Join.is_valid g.A.Value.Join.below g.met.A.Value.Join.reflexive g.met.A.Value.Join.transitive c.args.key _ _ c.requires.map _ c.requires.found (ap (slice_index_or c.args.pairs.now zero) c.index-pairs-0.is) (g.A.Addition.added c.args.addition) _)
    c.join_to.ensures.refused

pub returns-clause-map : goal.returns-clause-map
returns-clause-map g c =
    by_outcome c.join_to.result
    (joined_is_map g.K.Ord.cmp g.met.K.Ord.total g.A.Value.Join.is_valid g.A.Value.Join.below g.met.A.Value.Join.reflexive g.met.A.Value.Join.transitive c.args.key _ _ c.requires.map _ c.requires.found (ap (slice_index_or c.args.pairs.now zero) c.index-pairs-0.is) (g.A.Addition.added c.args.addition) _ c.join_to.ensures.valid)
    (between_is_map g.K.Ord.cmp g.met.K.Ord.total g.A.Value.Join.is_valid g.A.Value.Join.below g.met.A.Value.Join.reflexive g.met.A.Value.Join.transitive c.args.key _ _ c.requires.map _ c.requires.found (ap (slice_index_or c.args.pairs.now zero) c.index-pairs-0.is) (g.A.Addition.added c.args.addition) _ c.join_to.ensures.valid)
    c.join_to.ensures.ok c.join_to.ensures.refused

pub returns-clause-added : goal.returns-clause-added
returns-clause-added g c =
    let found = find_at g.K.Ord.cmp c.args.key c.args.pairs.now zero (slice_index_or c.args.pairs.now zero c.index-pairs-0.result) c.requires.found ∙ ap (λ x. Some x.1) (sym (ap (slice_index_or c.args.pairs.now zero) c.index-pairs-0.is)) in
    rw found
    (if_ok_weaker c.join_to.result
    (λ is_added. added_with g.K.Ord.cmp g.met.K.Ord.total g.A.Value.Join.below c.args.key (g.A.Addition.added c.args.addition) is_added (g.A.Addition.is_new c.args.addition (slice_index_or c.args.pairs.now zero c.index-pairs-0.result).1))
    c.join_to.ensures.added)

pub returns-clause-in_place : goal.returns-clause-in_place
returns-clause-in_place g c = λ in_place held.
    let found = find_at g.K.Ord.cmp c.args.key c.args.pairs.now zero (slice_index_or c.args.pairs.now zero c.index-pairs-0.result) c.requires.found ∙ ap (λ x. Some x.1) (sym (ap (slice_index_or c.args.pairs.now zero) c.index-pairs-0.is)) in
    c.join_to.ensures.in_place in_place (sym (ap (is_none_or (g.A.Addition.is_new c.args.addition)) found) ∙ held)
