use Rattle.std.proofs.Common.{◌∷◌}
use Rattle.index_rows.proofs.{Prelude.{[], IsSpread, List, non_members_read, set, subst, sym, true, ℕ}, Spreading.{IsSpread-more, IsSpread-none}}
use Rattle.index_rows.proofs.bits.add_member.Goals as goal

pub returns-in_ok-push : goal.returns-in_ok-push
returns-in_ok-push c =
    let seen = c.args.seen.now.items in
    let noted = c.args.noted.now.items in
    let P : List ℕ → Type 0 = λ l. IsSpread seen (set seen c.args.node true) noted l (c.args.node ∷ []) in
    subst P (sym c.in_ok-push.ensures.items)
    (IsSpread-more seen seen noted noted [] c.args.node c.requires (non_members_read _ _ _ c.index.ensures c.requires c.if-not-index.true) (IsSpread-none seen noted))
