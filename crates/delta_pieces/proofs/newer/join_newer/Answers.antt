use Rattle.std.proofs.Common.{◌≡◌}
use Rattle.delta_pieces.proofs.{Gathers.{join_absent, join_newer, join_older}, Prelude.{ap, EntryMap, is_newer, OnOk, subst, sym, ◌∙◌}}
use Rattle.delta_pieces.proofs.newer.join_newer.Goals as goal

pub returns-in_default : goal.returns-in_default
returns-in_default c = record { ok = join_absent _ _ _ _ (sym c.in_default.ensures.held) }

pub returns-then-not-is_newer : goal.returns-then-not-is_newer
returns-then-not-is_newer c =
    let older = ap (is_newer c.in-Some.entry.now.version) (sym c.get-2.ensures.version) ∙ sym c.is_newer.ensures.newer ∙ c.if-not-is_newer.true in
    record { ok = join_older _ _ _ _ c.in-Some.entry.now (sym c.in-Some.ensures.held) older }

pub returns : goal.returns
returns c =
    let newer = ap (is_newer c.in-Some.entry.now.version) (sym c.get-2.ensures.version) ∙ sym c.is_newer.ensures.newer ∙ c.if-not-is_newer.false in
    let joined = join_newer _ _ c.args.place.now c.args.newer.now c.in-Some.entry.now (sym c.in-Some.ensures.held) newer in
    record { ok = subst (λ (m : EntryMap). OnOk c.join_at.result (c.join_at.new.newer ≡ m)) joined c.join_at.ensures.ok }
