-- Asks that are told of a range alone.
-- Source: this project's own.
use Rattle.std.proofs.Common.{◌≡◌}
use Rattle.std.specs.FinMap as finmap
use Rattle.range_prints.specs.Prelude.{cut, digest_of, EntryMap, is_asked, List, PlaceParts, Some, true, VersionMap}
use Rattle.range_prints.specs.Ranges.{is_within, within}
use Rattle.range_prints.specs.declared.ranges.Range.{Range}

-- the part of a store's ask that a range has
abbrev pub digest_within : Range → EntryMap → VersionMap
digest_within r s = finmap.from_entries (within r (finmap.entries (digest_of s)))

-- each of these places is in the range
abbrev pub AreWithin : Range → List PlaceParts → Type 0
AreWithin r ps = (p : PlaceParts) → is_asked p (Some ps) ≡ true → is_within r p ≡ true

-- at places of a range, the same is cut for the part of an ask as for the whole ask
abbrev pub IsSameCut : Range → EntryMap → EntryMap → List PlaceParts → Type 0
IsSameCut r s t ps = AreWithin r ps → cut t (digest_within r s) (Some ps) ≡ cut t (digest_of s) (Some ps)
