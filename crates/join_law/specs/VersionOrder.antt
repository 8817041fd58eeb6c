-- The order of versions, entries and optional entries: by counter, then writer, then content.
-- Source (last writer wins by timestamps): Shapiro, Preguica, Baquero, Zawirski 2011; breaking ties by content is this
-- project's own.
use Rattle.std.proofs.Common.{if◌then◌else◌, ◌≡◌}
use Rattle.join_law.specs.Prelude.{Bool, Equal, false, Greater, is_eq, is_gt, Less, nat_cmp, None, not, Option, Ordering, ordering_then, Some}
use Rattle.join_law.specs.declared.versions.{Entry.{Entry}, Version.{Version}, Versioned.{TheVariants.{At, Never}, Versioned}}

-- by counter, then by writer
abbrev pub version_cmp : Version → Version → Ordering
version_cmp v w = ordering_then (nat_cmp v.counter w.counter) (nat_cmp v.writer w.writer)

-- by version, then by content
abbrev pub entry_cmp : {C : Type 0} → (C → C → Ordering) → Entry C → Entry C → Ordering
entry_cmp R x y = ordering_then (version_cmp x.version y.version) (R x.content y.content)

-- x is at most y; an absent entry is at most every other
abbrev pub IsBelow : {C : Type 0} → (C → C → Ordering) → Option (Entry C) → Option (Entry C) → Type 0
IsBelow R None y = Unit {0}
IsBelow R (Some x) None = ⊥
IsBelow R (Some x) (Some y) = is_gt (entry_cmp R x y) ≡ false

-- the greater of two optional entries
abbrev pub larger : {C : Type 0} → (C → C → Ordering) → Option (Entry C) → Option (Entry C) → Option (Entry C)
larger R None y = y
larger R (Some x) None = Some x
larger R (Some x) (Some y) = if is_gt (entry_cmp R x y) then Some x else Some y

-- the entry, if one was written
abbrev pub written : {C : Type 0} → Versioned C → Option (Entry C)
written Never = None
written (At x) = Some x

-- the entry, if the place exists and an entry was written there
abbrev pub written_at : {C : Type 0} → Option (Versioned C) → Option (Entry C)
written_at None = None
written_at (Some x) = written x

-- `Never` first; then by version, then by content
abbrev pub versioned_cmp : {C : Type 0} → (C → C → Ordering) → Versioned C → Versioned C → Ordering
versioned_cmp R Never Never = Equal
versioned_cmp R Never (At y) = Less
versioned_cmp R (At x) Never = Greater
versioned_cmp R (At x) (At y) = entry_cmp R x y

-- the entry of x is at most the entry of y
abbrev pub IsUpTo : {C : Type 0} → (C → C → Ordering) → Versioned C → Versioned C → Type 0
IsUpTo R x y = IsBelow R (written x) (written y)

-- the greater of two
abbrev pub versioned_max : {C : Type 0} → (C → C → Ordering) → Versioned C → Versioned C → Versioned C
versioned_max R Never y = y
versioned_max R (At x) Never = At x
versioned_max R (At x) (At y) = if is_gt (entry_cmp R x y) then At x else At y

-- an entry with another content was written
abbrev pub has_other : {C : Type 0} → (C → C → Ordering) → C → Versioned C → Bool
has_other R c Never = false
has_other R c (At x) = not (is_eq (R x.content c))
