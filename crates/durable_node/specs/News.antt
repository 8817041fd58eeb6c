-- What a store has that is news to another.
-- Source: this project's own.
use Rattle.std.specs.Prelude.{◌∷◌, [], Bool, true, filter, if◌then◌else◌, List, Option, Some, None}
use Rattle.std.specs.FinMap as finmap
use Rattle.std.specs.Ordering.{is_lt}
use Rattle.edit_sums.specs.declared.entries.Edit.{Edit}
use Rattle.load_places.specs.Places.{PlaceParts}
use Rattle.path_maps.specs.Zipped.{Compared}
use Rattle.edit_sums.specs.Entries.{Entry, entry_cmp}
use Rattle.edit_sums.specs.Sums.{edit_of, edits_of, entry_of, EntryMap}

-- nothing is held, or something less
abbrev pub is_news : Option Entry → Entry → Bool
is_news None x = true
is_news (Some y) x = is_lt (entry_cmp y x)

-- the entries of another store that are news to a store, as edits, in place order
abbrev pub news_of : EntryMap → EntryMap → List Edit
news_of store other = filter (λ e. is_news (finmap.get store e.place) (entry_of e)) (edits_of other)

-- those among entries that are compared with what a store holds at their places
abbrev pub news_left : List (Compared PlaceParts) → List Edit
news_left [] = []
news_left (c ∷ cs) = if is_news c.1 c.0.1 then edit_of c.0 ∷ news_left cs else news_left cs
