use Rattle.std.proofs.Common.{slice_index_or}
use Rattle.join_law.specs.{EditLaws.{joined_is_join, joined_is_map, set_same}, OutcomeLaws.{by_answer, on_false_weaker, on_true_weaker}}
use Rattle.join_maps.proofs.Prelude.{ap, find_at, find_gap, is_some_and, IsMap, set, Some, subst, sym, ◌∙◌}
use Rattle.join_maps.proofs.changes.change_value.Goals as goal

pub returns-in-Ok-clause-made : goal.returns-in-Ok-clause-made
returns-in-Ok-clause-made g c =
    let found = find_at g.K.Ord.cmp c.args.key.now c.args.pairs.now c.in-Ok.at (slice_index_or c.args.pairs.now c.in-Ok.at c.index-pairs-at.result) c.in-Ok.ensures.found ∙ ap (λ x. Some x.1) (sym (ap (slice_index_or c.args.pairs.now c.in-Ok.at) c.index-pairs-at.is)) in
    c.make.ensures.made ∙ sym (ap (is_some_and (g.C.Change.is_made c.args.change)) found)

pub returns-in-Err-clause-made : goal.returns-in-Err-clause-made
returns-in-Err-clause-made g c =
    let none = find_gap g.K.Ord.cmp c.args.key.now g.met.K.Ord.total _ _ c.requires.sorted c.in-Err.ensures.absent in
    sym (ap (is_some_and (g.C.Change.is_made c.args.change)) none)

pub returns-in-Ok-clause-joined : goal.returns-in-Ok-clause-joined
returns-in-Ok-clause-joined g c =
    on_true_weaker c.make.result
    (joined_is_join g.K.Ord.cmp g.met.K.Ord.total g.C.Value.Join.is_valid g.C.Value.Join.below g.met.C.Value.Join.reflexive g.met.C.Value.Join.transitive c.args.key.now _ _ c.requires _ c.in-Ok.ensures.found (ap (slice_index_or c.args.pairs.now c.in-Ok.at) c.index-pairs-at.is) (g.C.Change.added c.args.change) _)
    c.make.ensures.joined

pub returns-in-Ok-clause-same : goal.returns-in-Ok-clause-same
returns-in-Ok-clause-same g c =
    on_false_weaker c.make.result
    (λ same. ap (λ v. set c.args.pairs.now c.in-Ok.at ((slice_index_or c.args.pairs.now c.in-Ok.at c.index-pairs-at.result).0, v)) same ∙ set_same c.args.pairs.now c.in-Ok.at (slice_index_or c.args.pairs.now c.in-Ok.at c.index-pairs-at.result) (ap (slice_index_or c.args.pairs.now c.in-Ok.at) c.index-pairs-at.is))
    c.make.ensures.same

pub returns-in-Ok-clause-map : goal.returns-in-Ok-clause-map
returns-in-Ok-clause-map g c =
    by_answer c.make.result
    (joined_is_map g.K.Ord.cmp g.met.K.Ord.total g.C.Value.Join.is_valid g.C.Value.Join.below g.met.C.Value.Join.reflexive g.met.C.Value.Join.transitive c.args.key.now _ _ c.requires _ c.in-Ok.ensures.found (ap (slice_index_or c.args.pairs.now c.in-Ok.at) c.index-pairs-at.is) (g.C.Change.added c.args.change) _ c.make.ensures.valid)
    (λ same. subst (IsMap g.K.Ord.cmp g.C.Value.Join.below g.C.Value.Join.is_valid) (sym (ap (λ v. set c.args.pairs.now c.in-Ok.at ((slice_index_or c.args.pairs.now c.in-Ok.at c.index-pairs-at.result).0, v)) same ∙ set_same c.args.pairs.now c.in-Ok.at (slice_index_or c.args.pairs.now c.in-Ok.at c.index-pairs-at.result) (ap (slice_index_or c.args.pairs.now c.in-Ok.at) c.index-pairs-at.is))) c.requires)
    c.make.ensures.joined c.make.ensures.same
