use Rattle.std.proofs.Common.{◌++◌, ◌∷◌}
use Rattle.path_maps.proofs.Prelude.{[], ap, Edit, EntryMap, sum_of, sum_of-push, sym, take, take_more, with_edit, ◌∙◌}
use Rattle.path_maps.proofs.stores.Store.from_edits.Goals as goal

pub loop-edit-preserved : goal.loop-edit-preserved
loop-edit-preserved c =
    c.in_ok-join_edit.ensures.ok
    ∙ ap (with_edit c.loop-edit.store) c.in_ok-try_clone.ensures.copy
    ∙ ap (λ (s : EntryMap). with_edit s c.edit-item.result) c.loop-edit.invariant
    ∙ sym (sum_of-push _ c.edit-item.result)
    ∙ ap sum_of (sym (take_more c.args.edits.now c.loop-edit.edit-index c.edit-item.result c.loop-edit-test.true ∙ ap (λ (e : Edit). take c.loop-edit.edit-index c.args.edits.now ++ e ∷ []) (sym c.edit-item.is)))
