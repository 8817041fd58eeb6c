use Rattle.std.proofs.Common.{◌≡◌}
use Rattle.delta_pieces.proofs.Prelude.{edit_of, EntryMap, OnOk, subst, with_edit}
use Rattle.delta_pieces.proofs.newer.join_at.Goals as goal

pub returns : goal.returns
returns c =
    let same : with_edit c.args.newer.now (edit_of (c.in_ok-try_clone.field-0, c.in_ok-version.field-0)) ≡ with_edit c.args.newer.now (edit_of (c.args.place.now, c.args.entry.now)) =
    λ i. with_edit c.args.newer.now (edit_of (c.in_ok-try_clone.ensures.copy i, c.in_ok-version.ensures.copy i))
    in
    record { ok = subst (λ (m : EntryMap). OnOk c.join_edit.result (c.join_edit.new.self ≡ m)) same c.join_edit.ensures.ok }
