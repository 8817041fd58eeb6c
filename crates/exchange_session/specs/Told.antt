-- What a side tells and asks of ranges.
-- Source: this project's own, after Meyer 2023.
use Rattle.std.proofs.Common.{◌≡◌, ◌≢◌, ◌⊎◌}
use Rattle.std.specs.FinMap as finmap
use Rattle.exchange_session.specs.Answered.{knows_more}
use Rattle.exchange_session.specs.Prelude.{false, IsAmong, is_within, List, place_cmp, PlaceParts, print, Range, true, Version, VersionMap, within, ℕ}
use Rattle.exchange_session.specs.declared.messages.{RangeAsk.{RangeAsk}, RangePrint.{RangePrint}}

-- the print of these versions in a range
abbrev pub own_print : ℕ → List (PlaceParts × Version) → Range → RangePrint
own_print seed own r = record { range = r; print = print seed (within r own) }

-- what is told of a range is the print of these versions there
abbrev pub IsOwnPrint : ℕ → List (PlaceParts × Version) → RangePrint → Type 0
IsOwnPrint seed own it = it.print ≡ print seed (within it.range own)

-- an ask for a range tells of these versions all that are there
abbrev pub IsOwnAsk : List (PlaceParts × Version) → RangeAsk → Type 0
IsOwnAsk own it = it.versions ≡ finmap.from_entries {R = place_cmp} (within it.range own)

-- the place is in a range whose print is told, or in one that is asked for
abbrev pub IsTold : PlaceParts → List RangePrint → List RangeAsk → Type 0
IsTold p prints asks =
    ((it : RangePrint) × (IsAmong it prints × (is_within it.range p ≡ true)))
    ⊎ ((it : RangeAsk) × (IsAmong it asks × (is_within it.range p ≡ true)))

-- of each place of the range something is told
abbrev pub Covers : Range → List RangePrint → List RangeAsk → Type 0
Covers r prints asks = (p : PlaceParts) → is_within r p ≡ true → IsTold p prints asks

-- where a print that is told isn't that of these versions, of each place of its range something is told
abbrev pub IsPursued : ℕ → List (PlaceParts × Version) → List RangePrint → List RangeAsk → RangePrint → Type 0
IsPursued seed own prints asks it = it.print ≢ print seed (within it.range own) → Covers it.range prints asks

-- the place is in a range whose told print isn't that of these versions
abbrev pub IsUnequalAt : ℕ → List (PlaceParts × Version) → List RangePrint → PlaceParts → Type 0
IsUnequalAt seed own told p =
    (it : RangePrint) × (IsAmong it told × ((it.print ≢ print seed (within it.range own)) × (is_within it.range p ≡ true)))

-- something is told only of places in such ranges
abbrev pub StaysUnequal : ℕ → List (PlaceParts × Version) → List RangePrint → List RangePrint → List RangeAsk → Type 0
StaysUnequal seed own told prints asks = (p : PlaceParts) → IsTold p prints asks → IsUnequalAt seed own told p

-- the place is in a range that is asked for
abbrev pub IsAskedAt : List RangeAsk → PlaceParts → Type 0
IsAskedAt asks p = (it : RangeAsk) × (IsAmong it asks × (is_within it.range p ≡ true))

-- the place is in a range that is asked for by an ask that tells of something newer than these versions
abbrev pub IsNewerAt : VersionMap → List RangeAsk → PlaceParts → Type 0
IsNewerAt own asks p = (it : RangeAsk) × (IsAmong it asks × ((knows_more own it.versions ≡ true) × (is_within it.range p ≡ true)))

-- an ask that tells of something newer than these versions is asked back: each place of its range is asked for
abbrev pub IsAskedBack : VersionMap → List RangeAsk → RangeAsk → Type 0
IsAskedBack own told ask = knows_more own ask.versions ≡ true → (p : PlaceParts) → is_within ask.range p ≡ true → IsAskedAt told p

-- an ask tells of nothing newer than these versions
abbrev pub IsNothingNew : VersionMap → RangeAsk → Type 0
IsNothingNew own ask = knows_more own ask.versions ≡ false
