-- Ranges of places.
-- Source: this project's own.
use Rattle.std.proofs.Common.{◌&&◌, ◌+◌, ◌∷◌, ◌≡◌}
use Rattle.std.specs.FinMap as finmap
use Rattle.range_prints.specs.Prelude.{[], Bool, cond, digest_of, EntryMap, filter, is_lt, List, None, not, Option, place_cmp, PlaceParts, Some, true, Version, ℕ}
use Rattle.range_prints.specs.declared.ranges.Range.{Range}

-- the range of all places
abbrev pub everything : Range
everything = record { from = None; until = None }

-- the place is before this one
abbrev pub is_below : PlaceParts → PlaceParts → Bool
is_below b p = is_lt (place_cmp p b)

-- the place is at or behind a lower bound; without a bound each place is
abbrev pub is_reached : Option PlaceParts → PlaceParts → Bool
is_reached None p = true
is_reached (Some b) p = not (is_below b p)

-- the place is before an upper bound; without a bound each place is
abbrev pub is_before : Option PlaceParts → PlaceParts → Bool
is_before None p = true
is_before (Some b) p = is_below b p

-- the place is in the range
abbrev pub is_within : Range → PlaceParts → Bool
is_within r p = is_reached r.from p && is_before r.until p

-- of these versions those whose places pass a test
abbrev pub those : (PlaceParts → Bool) → List (PlaceParts × Version) → List (PlaceParts × Version)
those test vs = filter (λ v. test v.0) vs

-- of these versions those whose places are in the range
abbrev pub within : Range → List (PlaceParts × Version) → List (PlaceParts × Version)
within r vs = those (is_within r) vs

-- in how many of these ranges the place is
abbrev pub times_within : PlaceParts → List Range → ℕ
times_within p [] = 0
times_within p (r ∷ rs) = cond (is_within r p) 1 0 + times_within p rs

-- the ranges are parts of this one: each place in it is in just one of them, and no other place is in any
abbrev pub ArePartsOf : Range → List Range → Type 0
ArePartsOf r parts = (p : PlaceParts) → times_within p parts ≡ cond (is_within r p) 1 0

-- the versions of a store, in place order
abbrev pub versions_of : EntryMap → List (PlaceParts × Version)
versions_of s = finmap.entries (digest_of s)
