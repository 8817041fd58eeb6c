use Rattle.std.proofs.Common.{◌++◌, ◌∷◌}
use Rattle.path_maps.proofs.Prelude.{[], ap, at_fleet, EntryMap, flat_holds_nothing, FlatEdit, holds_shows, List, map, map-append, sum_of, sum_of-push, sym, take, take_more, with_edit, ◌∙◌}
use Rattle.path_maps.proofs.stores.Store.from_flat.Goals as goal

pub loop-edit-preserved : goal.loop-edit-preserved
loop-edit-preserved c =
    let before : List FlatEdit = take c.loop-edit.edit-index c.args.edits.now in
    c.in_ok-join_edit.ensures.ok
    ∙ ap (with_edit c.loop-edit.store) c.in_ok-at_fleet.ensures.edit
    ∙ ap (λ (s : EntryMap). with_edit s (at_fleet c.edit-item.result)) c.loop-edit.invariant
    ∙ sym (sum_of-push (map at_fleet before) (at_fleet c.edit-item.result))
    ∙ ap sum_of (sym (map-append at_fleet before (c.edit-item.result ∷ [])))
    ∙ ap (λ (es : List FlatEdit). sum_of (map at_fleet es)) (sym (take_more c.args.edits.now c.loop-edit.edit-index c.edit-item.result c.loop-edit-test.true ∙ ap (λ (e : FlatEdit). before ++ e ∷ []) (sym c.edit-item.is)))

pub returns-clause-held : goal.returns-clause-held
returns-clause-held c host =
    flat_holds_nothing c.loop-edit.store (take c.loop-edit.edit-index c.args.edits.now) c.loop-edit.invariant host

pub returns-clause-shown : goal.returns-clause-shown
returns-clause-shown c host =
    let edits = take c.loop-edit.edit-index c.args.edits.now in
    holds_shows c.loop-edit.store host (flat_holds_nothing c.loop-edit.store edits c.loop-edit.invariant host)
