-- The lives of a node: what it holds after calls, crashes and opens.
-- Source (a counter above all that were seen): Lamport 1978; the rest is this project's own.
use Rattle.std.proofs.Common.{if◌then◌else◌, ◌+◌, ◌++◌, ◌∷◌, ◌≡◌, ◌⊎◌}
use Rattle.edit_log.specs.Prelude.{[], Content, Edit, high_among, IsAmong, List, PlaceParts, ℕ}
use Rattle.edit_log.specs.declared.happenings.Happening.{Happening, TheVariants.{Commit, Put, Restart, Take}}

-- what a node holds: the edits that stand in its log, and those that don't yet
pub record Lived : Type 0 where
  pub logged : List Edit
  pub unsaved : List Edit

-- all of them
abbrev pub all_of : Lived → List Edit
all_of s = s.logged ++ s.unsaved

-- the edit that a writer who holds these makes next
abbrev pub own_edit : ℕ → List Edit → PlaceParts → Content → Edit
own_edit writer held place content = record { place = place; version = record { counter = high_among held + 1; writer = writer }; content = content }

abbrev pub after_one : ℕ → Lived → Happening → Lived
after_one writer s (Put place content) = record s { unsaved = s.unsaved ++ own_edit writer (all_of s) place content ∷ [] }
after_one writer s (Take edits) = record s { unsaved = s.unsaved ++ edits.items }
after_one writer s Commit = record { logged = all_of s; unsaved = [] }
after_one writer s (Restart whole) = record { logged = if whole then all_of s else s.logged; unsaved = [] }

abbrev pub after : ℕ → Lived → List Happening → Lived
after writer s [] = s
after writer s (h ∷ hs) = after writer (after_one writer s h) hs

-- the list has all of these, and perhaps more after them
pub record HasPrefix (prefix edits : List Edit) : Type 0 where
  pub more : List Edit
  pub is : edits ≡ prefix ++ more

-- ---- what was asked for

-- this asks for the edit, but for its counter: to write it, or to take it
abbrev pub AsksFor : ℕ → Edit → Happening → Type 0
AsksFor writer e (Put place content) = (e.version.writer ≡ writer) × (e.place ≡ place) × (e.content ≡ content)
AsksFor writer e (Take edits) = IsAmong e edits.items
AsksFor writer e Commit = ⊥
AsksFor writer e (Restart whole) = ⊥

abbrev pub IsAskedFor : ℕ → Edit → List Happening → Type 0
IsAskedFor writer e [] = ⊥
IsAskedFor writer e (h ∷ hs) = AsksFor writer e h ⊎ IsAskedFor writer e hs

-- ---- versions

-- no version of this writer belongs to two of the edits
abbrev pub IsHonestOf : ℕ → List Edit → Type 0
IsHonestOf writer edits = (e f : Edit) → IsAmong e edits → IsAmong f edits → e.version.writer ≡ writer → f.version.writer ≡ writer
    → e.version.counter ≡ f.version.counter → e ≡ f

-- What it takes of its own writer's edits stands in its log: others have them only from this node, which hands out nothing
-- before it is logged.
abbrev pub TakesOwnBack : ℕ → Lived → Happening → Type 0
TakesOwnBack writer s (Take edits) = (e : Edit) → IsAmong e edits.items → e.version.writer ≡ writer → IsAmong e s.logged
TakesOwnBack writer s (Put place content) = Unit {0}
TakesOwnBack writer s Commit = Unit {0}
TakesOwnBack writer s (Restart whole) = Unit {0}

abbrev pub AlwaysTakesOwnBack : ℕ → Lived → List Happening → Type 0
AlwaysTakesOwnBack writer s [] = Unit {0}
AlwaysTakesOwnBack writer s (h ∷ hs) = TakesOwnBack writer s h × AlwaysTakesOwnBack writer (after_one writer s h) hs

-- ---- one life in place of many

-- what a node that never ends holds after its puts and takes
abbrev pub held_after : ℕ → List Edit → List Happening → List Edit
held_after writer held [] = held
held_after writer held (Put place content ∷ hs) = held_after writer (held ++ own_edit writer held place content ∷ []) hs
held_after writer held (Take edits ∷ hs) = held_after writer (held ++ edits.items) hs
held_after writer held (Commit ∷ hs) = held_after writer held hs
held_after writer held (Restart whole ∷ hs) = held_after writer held hs

-- the puts and takes whose edits were not lost, after these, which are not in the log yet
abbrev pub survivors : List Happening → List Happening → List Happening
survivors pending [] = pending
survivors pending (Put place content ∷ hs) = survivors (pending ++ Put place content ∷ []) hs
survivors pending (Take edits ∷ hs) = survivors (pending ++ Take edits ∷ []) hs
survivors pending (Commit ∷ hs) = pending ++ survivors [] hs
survivors pending (Restart whole ∷ hs) = (if whole then pending else []) ++ survivors [] hs
