-- Lists of edits, and their sum.
-- Source (states as joins of updates, and their order): Shapiro, Preguica, Baquero, Zawirski 2011. Honest edits,
-- counters and changed places are this project's own.
use Rattle.std.proofs.Common.{if◌then◌else◌, ◌++◌, ◌∷◌, ◌≡◌}
use Rattle.edit_sums.specs.Prelude.{[], Bool, count_by, eq_by_cmp, FinMap, is_eq, IsAmong, List, map, max, None, not, Option, option_and_then, place_cmp, PlaceParts, Some, true, unwrap_or, ℕ}
use Rattle.edit_sums.specs.{declared.{contents.Content.{Content, TheVariants.{File, Gone, Link}}, entries.Edit.{Edit}}, Entries.{Entry, entry_cmp, IsBelow, larger}}
use Rattle.std.specs.FinMap as finmap

-- a store's content: at most one entry at each place
abbrev pub EntryMap : Type 0
EntryMap = FinMap place_cmp Entry

abbrev pub entry_of : Edit → Entry
entry_of e = record { version = e.version; content = e.content }

abbrev pub edit_of : PlaceParts × Entry → Edit
edit_of p = record { place = p.0; version = p.1.version; content = p.1.content }

-- honest edits: no two different edits have the same version
abbrev pub IsHonest : List Edit → Type 0
IsHonest es = (e f : Edit) → IsAmong e es → IsAmong f es → e.version ≡ f.version → e ≡ f

-- the greatest entry among the edits at a place
abbrev pub greatest_at : PlaceParts → List Edit → Option Entry
greatest_at q [] = None
greatest_at q (e ∷ es) = if eq_by_cmp place_cmp q e.place then larger (Some (entry_of e)) (greatest_at q es) else greatest_at q es

-- a store with an edit joined in at its place
abbrev pub with_edit : EntryMap → Edit → EntryMap
with_edit s e = finmap.insert s e.place (unwrap_or (larger (Some (entry_of e)) (finmap.get s e.place)) (entry_of e))

-- the sum of edits: at each place with an edit, the greatest entry among the edits there
abbrev pub sum_of : List Edit → EntryMap
sum_of [] = finmap.empty
sum_of (e ∷ es) = with_edit (sum_of es) e

-- the sum, characterized: each edit is at most what is held at its place, and everything held is one of the edits
pub record IsSum (es : List Edit) (s : EntryMap) : Type 0 where
  pub above : (e : Edit) → IsAmong e es → IsBelow (Some (entry_of e)) (finmap.get s e.place)
  pub found : (q : PlaceParts) (x : Entry) → finmap.get s q ≡ Some x → IsAmong (edit_of (q, x)) es

-- the entries of a store, as edits
abbrev pub edits_of : EntryMap → List Edit
edits_of s = map edit_of (finmap.entries s)

-- the join: the sum of the edits of both stores
abbrev pub join : EntryMap → EntryMap → EntryMap
join s t = sum_of (edits_of s ++ edits_of t)

-- s is below t: at each place of s, t has an entry that isn't less
abbrev pub IsStoreBelow : EntryMap → EntryMap → Type 0
IsStoreBelow s t = (q : PlaceParts) → IsBelow (finmap.get s q) (finmap.get t q)

-- the store is above each of these edits: at the edit's place it has that edit or a greater one
abbrev pub IsAboveEdits : List Edit → EntryMap → Type 0
IsAboveEdits es s = (e : Edit) → IsAmong e es → IsBelow (Some (entry_of e)) (finmap.get s e.place)

-- the content of an entry, unless it is a removal
abbrev pub shown : Entry → Option Content
shown x = shown_content x.content
  where
    shown_content : Content → Option Content
    shown_content Gone = None
    shown_content (Link target) = Some (Link target)
    shown_content (File bytes) = Some (File bytes)

-- the visible content at a place
abbrev pub visible_at : EntryMap → PlaceParts → Option Content
visible_at s q = option_and_then shown (finmap.get s q)

-- the greatest counter of some entries; 0 if there are none
abbrev pub greatest_counter : List (PlaceParts × Entry) → ℕ
greatest_counter [] = 0
greatest_counter (p ∷ ps) = max p.1.version.counter (greatest_counter ps)

-- the greatest counter in a store
abbrev pub high_of : EntryMap → ℕ
high_of s = greatest_counter (finmap.entries s)

-- the greatest counter of some edits
abbrev pub high_among : List Edit → ℕ
high_among [] = 0
high_among (e ∷ es) = max e.version.counter (high_among es)

-- there was no entry, or a different one
abbrev pub is_other : Option Entry → Entry → Bool
is_other None y = true
is_other (Some x) y = not (is_eq (entry_cmp x y))

-- the number of places whose entry is new
abbrev pub changed_places : EntryMap → EntryMap → ℕ
changed_places old new = count_by (λ p. is_other (finmap.get old p.0) p.1) (finmap.entries new)
