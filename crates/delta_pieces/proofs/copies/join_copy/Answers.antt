use Rattle.std.proofs.Common.{◌≡◌}
use Rattle.delta_pieces.proofs.Prelude.{edit_of, EntryMap, OnOk, subst, with_edit, ◌∙◌}
use Rattle.delta_pieces.proofs.copies.join_copy.Goals as goal

pub returns : goal.returns
returns c =
    let entry : c.in_ok-version.field-0 ≡ c.args.placed.now.1 = c.in_ok-version.ensures.copy ∙ c.entry.ensures.entry in
    let same : with_edit c.args.store.now (edit_of (c.in_ok-place.field-0, c.in_ok-version.field-0)) ≡ with_edit c.args.store.now (edit_of c.args.placed.now) =
    λ i. with_edit c.args.store.now (edit_of (c.in_ok-place.ensures.place i, entry i))
    in
    record { ok = subst (λ (m : EntryMap). OnOk c.join_edit.result (c.join_edit.new.self ≡ m)) same c.join_edit.ensures.ok }
