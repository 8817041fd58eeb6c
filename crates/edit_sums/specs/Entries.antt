-- The entries of stores: contents of unit files with their versions.
-- Source (a register in which the last writer wins): Shapiro, Preguica, Baquero, Zawirski 2011.
use Rattle.edit_sums.specs.{Contents.{content_cmp}, declared.contents.Content.{Content}, Prelude.{Option, Ordering}}
use Rattle.join_law.specs.VersionOrder as order
use Rattle.join_law.specs.declared.versions.Entry as versioned

-- a content with its version
abbrev pub Entry : Type 0
Entry = versioned.Entry Content

-- by version, then by content
abbrev pub entry_cmp : Entry → Entry → Ordering
entry_cmp = order.entry_cmp content_cmp

-- x is at most y; an absent entry is at most every other
abbrev pub IsBelow : Option Entry → Option Entry → Type 0
IsBelow = order.IsBelow content_cmp

-- the greater of two optional entries
abbrev pub larger : Option Entry → Option Entry → Option Entry
larger = order.larger content_cmp
