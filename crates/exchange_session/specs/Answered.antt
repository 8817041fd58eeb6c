-- What is said to asks.
-- Source: this project's own.
use Rattle.std.specs.FinMap as finmap
use Rattle.exchange_session.specs.Prelude.{Bool, cut, digest_of, EntryMap, filter, is_newer, list_any, List, map, PlaceParts, place_cmp, Range, Some, Version, VersionMap, within, versions_of}
use Rattle.exchange_session.specs.declared.messages.{RangeAsk.{RangeAsk}}

-- the version is newer than what is held at its place
abbrev pub is_more : VersionMap → PlaceParts × Version → Bool
is_more own told = is_newer told.1 (finmap.get own told.0)

-- an ask tells of something newer
abbrev pub knows_more : VersionMap → VersionMap → Bool
knows_more own asked = list_any (is_more own) (finmap.entries asked)

-- the places of these versions that are in a range
abbrev pub places_within : Range → List (PlaceParts × Version) → List PlaceParts
places_within r own = map (λ v. v.0) (within r own)

-- the piece for an ask: the cut for the versions that it tells, at the places in its range
unfoldable pub piece_for : EntryMap → RangeAsk → EntryMap
piece_for s ask = cut s ask.versions (Some (places_within ask.range (versions_of s)))

-- the ask for a range that tells of these versions
abbrev pub own_ask : List (PlaceParts × Version) → Range → RangeAsk
own_ask own r = record { range = r; versions = finmap.from_entries {R = place_cmp} (within r own) }
