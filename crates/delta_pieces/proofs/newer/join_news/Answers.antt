use Rattle.std.proofs.Common.{◌≡◌}
use Rattle.delta_pieces.proofs.{Gathers.{join_absent, join_newer, join_older}, Joined.{held_version}, Prelude.{ap, Bool, Bor, digest_of, Entry, EntryMap, get-digest_of, is_newer, OnOk, Option, option_copied, option_map, PlaceParts, subst, sym, ◌∙◌}}
use Rattle.std.specs.FinMap as finmap
use Rattle.delta_pieces.proofs.newer.join_news.Goals as goal

-- whether an entry is newer than what a store holds at a place is whether it is newer than the store's digest there
news_is_newer : (other : EntryMap) (p : PlaceParts) (x : Entry) (held : Option (Bor Entry)) (news : Bool) → option_copied held ≡ finmap.get other p
    → news ≡ is_newer x.version (option_map (λ y. y.now.version) held) → is_newer x.version (finmap.get (digest_of other) p) ≡ news
news_is_newer other p x held news is e =
    ap (is_newer x.version) (get-digest_of other p ∙ ap (option_map (λ (y : Entry). y.version)) (sym is) ∙ sym (held_version held)) ∙ sym e

pub returns-in_default : goal.returns-in_default
returns-in_default c = record { ok = join_absent _ _ _ _ (sym c.in_default.ensures.held) }

pub returns-then-not-is_news : goal.returns-then-not-is_news
returns-then-not-is_news c =
    let x = c.in-Some.entry.now in
    let older = news_is_newer c.args.other.now c.args.place.now x c.get-2.result c.is_news.result c.get-2.ensures.held c.is_news.ensures.news ∙ c.if-not-is_news.true in
    record { ok = join_older _ _ _ _ x (sym c.in-Some.ensures.held) older }

pub returns : goal.returns
returns c =
    let x = c.in-Some.entry.now in
    let newer = news_is_newer c.args.other.now c.args.place.now x c.get-2.result c.is_news.result c.get-2.ensures.held c.is_news.ensures.news ∙ c.if-not-is_news.false in
    let joined = join_newer _ _ c.args.place.now c.args.newer.now x (sym c.in-Some.ensures.held) newer in
    record { ok = subst (λ (m : EntryMap). OnOk c.join_at.result (c.join_at.new.newer ≡ m)) joined c.join_at.ensures.ok }
