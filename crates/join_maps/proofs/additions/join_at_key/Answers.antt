use Rattle.join_maps.proofs.Prelude.{ap, entry_not_least, find_at, find_gap, is_none_or, refl, Some, sym, ◌∙◌}
use Rattle.join_law.specs.{EditLaws.{added_with, between_is_between, between_is_map, inserted_is_join, inserted_is_map, joined_is_join, joined_is_map}, OutcomeLaws.{by_outcome, if_ok_weaker, on_err_weaker, on_ok_weaker}}
use Rattle.join_maps.proofs.additions.join_at_key.Goals as goal

pub returns-in-Ok-clause-ok : goal.returns-in-Ok-clause-ok
returns-in-Ok-clause-ok g c =
    on_ok_weaker c.join_to.result
    (joined_is_join g.K.Ord.cmp g.met.K.Ord.total g.A.Value.Join.is_valid g.A.Value.Join.below g.met.A.Value.Join.reflexive g.met.A.Value.Join.transitive c.args.key _ _ c.requires.map _ (rw c.in-Ok.is at c.requires.found) c.index_mut-place.ensures.value (g.A.Addition.added c.args.addition) _)
    c.join_to.ensures.ok

pub returns-in-Ok-clause-refused : goal.returns-in-Ok-clause-refused
returns-in-Ok-clause-refused g c =
    on_err_weaker c.join_to.result
    (between_is_between g.K.Ord.cmp g.met.K.Ord.total g.A.Value.Join.is_valid g.A.Value.Join.below g.met.A.Value.Join.reflexive g.met.A.Value.Join.transitive c.args.key _ _ c.requires.map _ (rw c.in-Ok.is at c.requires.found) c.index_mut-place.ensures.value (g.A.Addition.added c.args.addition) _)
    c.join_to.ensures.refused

pub returns-in-Ok-clause-map : goal.returns-in-Ok-clause-map
returns-in-Ok-clause-map g c =
    by_outcome c.join_to.result
    (joined_is_map g.K.Ord.cmp g.met.K.Ord.total g.A.Value.Join.is_valid g.A.Value.Join.below g.met.A.Value.Join.reflexive g.met.A.Value.Join.transitive c.args.key _ _ c.requires.map _ (rw c.in-Ok.is at c.requires.found) c.index_mut-place.ensures.value (g.A.Addition.added c.args.addition) _ c.join_to.ensures.valid)
    (between_is_map g.K.Ord.cmp g.met.K.Ord.total g.A.Value.Join.is_valid g.A.Value.Join.below g.met.A.Value.Join.reflexive g.met.A.Value.Join.transitive c.args.key _ _ c.requires.map _ (rw c.in-Ok.is at c.requires.found) c.index_mut-place.ensures.value (g.A.Addition.added c.args.addition) _ c.join_to.ensures.valid)
    c.join_to.ensures.ok c.join_to.ensures.refused

pub returns-in-Ok-clause-added : goal.returns-in-Ok-clause-added
returns-in-Ok-clause-added g c =
    let found = find_at g.K.Ord.cmp c.args.key c.args.pairs.now.items c.in-Ok.at c.index_mut-place.result.now (rw c.in-Ok.is at c.requires.found) ∙ ap (λ x. Some x.1) (sym c.index_mut-place.ensures.value) in
    rw found
    (if_ok_weaker c.join_to.result
    (λ is_added. added_with g.K.Ord.cmp g.met.K.Ord.total g.A.Value.Join.below c.args.key (g.A.Addition.added c.args.addition) is_added (g.A.Addition.is_new c.args.addition c.index_mut-place.result.now.1))
    c.join_to.ensures.added)

pub returns-in-Ok-clause-in_place : goal.returns-in-Ok-clause-in_place
returns-in-Ok-clause-in_place g c = λ in_place held.
    let found = find_at g.K.Ord.cmp c.args.key c.args.pairs.now.items c.in-Ok.at c.index_mut-place.result.now (rw c.in-Ok.is at c.requires.found) ∙ ap (λ x. Some x.1) (sym c.index_mut-place.ensures.value) in
    c.join_to.ensures.in_place in_place (sym (ap (is_none_or (g.A.Addition.is_new c.args.addition)) found) ∙ held)

pub returns-in_err-value-in-Err-clause-in_place : goal.returns-in_err-value-in-Err-clause-in_place
returns-in_err-value-in-Err-clause-in_place g c = λ in_place held.
    let none = find_gap g.K.Ord.cmp c.args.key g.met.K.Ord.total _ _ c.requires.map.sorted (rw c.in-Err.is at c.requires.absent) in
    let new = sym (ap (is_none_or (g.A.Addition.is_new c.args.addition)) none) ∙ held in
    cc (new)

pub returns-in_err-insert_pair-in-Some-clause-in_place : goal.returns-in_err-insert_pair-in-Some-clause-in_place
returns-in_err-insert_pair-in-Some-clause-in_place g c = λ in_place held.
    let none = find_gap g.K.Ord.cmp c.args.key g.met.K.Ord.total _ _ c.requires.map.sorted (rw c.in-Err.is at c.requires.absent) in
    let new = sym (ap (is_none_or (g.A.Addition.is_new c.args.addition)) none) ∙ held in
    cc (new)

pub returns-in_ok-insert_pair-in-Some-clause-ok : goal.returns-in_ok-insert_pair-in-Some-clause-ok
returns-in_ok-insert_pair-in-Some-clause-ok g c =
    let value = rw c.in-Some.is at c.in_ok-value-in-Err.ensures.value in
    let held = rw c.in-Some.is at c.in_ok-value-in-Err.ensures.held in
    rw (c.in_ok-insert_pair-in-Some.ensures.ok, sym value)
    (inserted_is_join g.K.Ord.cmp g.met.K.Ord.total g.A.Value.Join.is_valid g.A.Value.Join.below g.met.A.Value.Join.reflexive g.met.A.Value.Join.transitive c.args.key _ _ c.requires.map c.in-Some.value held.not_least (rw c.in-Err.is at c.requires.absent))

pub returns-in_ok-insert_pair-in-Some-clause-map : goal.returns-in_ok-insert_pair-in-Some-clause-map
returns-in_ok-insert_pair-in-Some-clause-map g c =
    let held = rw c.in-Some.is at c.in_ok-value-in-Err.ensures.held in
    rw c.in_ok-insert_pair-in-Some.ensures.ok
    (inserted_is_map g.K.Ord.cmp g.met.K.Ord.total g.A.Value.Join.is_valid g.A.Value.Join.below g.met.A.Value.Join.reflexive g.met.A.Value.Join.transitive c.args.key _ _ c.requires.map c.in-Some.value held.not_least (rw c.in-Err.is at c.requires.absent) held.well_formed)

pub returns-in_ok-insert_pair-in-Some-clause-added : goal.returns-in_ok-insert_pair-in-Some-clause-added
returns-in_ok-insert_pair-in-Some-clause-added g c =
    let value = rw c.in-Some.is at c.in_ok-value-in-Err.ensures.value in
    let held = rw c.in-Some.is at c.in_ok-value-in-Err.ensures.held in
    let none = find_gap g.K.Ord.cmp c.args.key g.met.K.Ord.total _ _ c.requires.map.sorted (rw c.in-Err.is at c.requires.absent) in
    (λ _. (ap (is_none_or (g.A.Addition.is_new c.args.addition)) none, rw (sym value) (entry_not_least g.K.Ord.cmp g.A.Value.Join.below g.met.K.Ord.total c.args.key c.in-Some.value held.not_least)), λ _. refl)
