-- What a home holds, and what is found of it.
-- Source: this project's own.
use Rattle.edit_sums.specs.Sums.{EntryMap, IsStoreBelow}

-- what was true of a store once still is
abbrev pub StaysKept : (EntryMap → Type 0) → (EntryMap → Type 0) → Type 0
StaysKept before after = (s : EntryMap) → before s → after s

-- a store is held now, if less was held before
abbrev pub IsHeldNext : EntryMap → (EntryMap → Type 0) → (EntryMap → Type 0) → Type 0
IsHeldNext next before after = (s : EntryMap) → before s → IsStoreBelow s next → after next
