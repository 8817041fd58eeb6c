-- Which places the entries of another store change, how many they are, and at how many of them nothing was held.
-- Source: this project's own.
use Rattle.path_maps.specs.{Prelude.{Bool, count_by, Entry, entry_cmp, EntryMap, filter, is_lt, is_some, List, map, None, not, Option, PlaceParts, Some, true, ℕ}, Zipped.{Compared}}
use Rattle.std.specs.FinMap as finmap

-- The entry is greater than what is held there, or nothing is held there.
abbrev pub is_ascending : Option Entry → Entry → Bool
is_ascending None y = true
is_ascending (Some x) y = is_lt (entry_cmp x y)

-- How many of these entries are greater than what a store holds at their places.
abbrev pub ascends : EntryMap → List (PlaceParts × Entry) → ℕ
ascends s es = count_by (λ p. is_ascending (finmap.get s p.0) p.1) es

-- How many of these entries are at places where the store holds nothing.
abbrev pub additions : EntryMap → List (PlaceParts × Entry) → ℕ
additions s es = count_by (λ p. not (is_some (finmap.get s p.0))) es

-- The places of entries, each beside what another store holds there, that are greater than that.
abbrev pub news_zipped : List (Compared PlaceParts) → List PlaceParts
news_zipped bs = map (λ b. b.0.0) (filter (λ b. is_ascending b.1 b.0.1) bs)
