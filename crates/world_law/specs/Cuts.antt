-- Asks, and the cuts that answer them.
-- Source: Digests and deltas, after Almeida, Shoker, Baquero 2018; which entries a cut has is this project's own.
use Rattle.std.proofs.Common.{◌&&◌, ◌≡◌}
use Rattle.world_law.specs.Prelude.{Bool, Edit, edits_of, EntryMap, eq_by_cmp, filter, FinMap, is_gt, IsAmong, List, list_any, map, None, Option, place_cmp, PlaceParts, Some, sum_of, true, Version, version_cmp}
use Rattle.std.specs.FinMap as finmap

-- edits are told apart by their versions: no two different ones of one place have one version. Honest edits are.
abbrev pub AreToldApart : List Edit → Type 0
AreToldApart es = (e f : Edit) → IsAmong e es → IsAmong f es → e.place ≡ f.place → e.version ≡ f.version → e ≡ f

-- an ask: at most one version at each place
abbrev pub VersionMap : Type 0
VersionMap = FinMap place_cmp Version

-- the ask made of a store: the version at each place
abbrev pub digest_of : EntryMap → VersionMap
digest_of s = finmap.from_entries (map (λ p. (p.0, p.1.version)) (finmap.entries s))

-- the version is greater than the ask's, or the ask has none
abbrev pub is_newer : Version → Option Version → Bool
is_newer v None = true
is_newer v (Some w) = is_gt (version_cmp v w)

-- the place is one of these; if no places are given, any place is
abbrev pub is_asked : PlaceParts → Option (List PlaceParts) → Bool
is_asked q None = true
is_asked q (Some qs) = list_any (λ p. eq_by_cmp place_cmp q p) qs

-- the edits at these places
abbrev pub at_places : Option (List PlaceParts) → List Edit → List Edit
at_places places es = filter (λ e. is_asked e.place places) es

-- the edit is at these places, and its version is greater than the ask's or the ask has none there
abbrev pub is_wanted : VersionMap → Option (List PlaceParts) → Edit → Bool
is_wanted ask places e = is_asked e.place places && is_newer e.version (finmap.get ask e.place)

-- the cut for an ask: the sum of the wanted edits among those held
abbrev pub cut : EntryMap → VersionMap → Option (List PlaceParts) → EntryMap
cut s ask places = sum_of (filter (is_wanted ask places) (edits_of s))

-- the part of a store at these places
abbrev pub only_at : List PlaceParts → EntryMap → EntryMap
only_at places s = sum_of (at_places (Some places) (edits_of s))
