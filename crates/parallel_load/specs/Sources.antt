-- The visible names of a store, and those of them that are loaded: definitions for private clauses.
-- Source: this project's own.
use Rattle.std.proofs.Common.{if◌then◌else◌, ◌&&◌, ◌↔◌, ◌≡◌}
use Rattle.parallel_load.specs.Prelude.{[], Bool, Entry, false, filter, filter_map, HostViewMap, Instance, is_in, is_name, is_some, IsAmong, List, Name, NamedWords, None, not, Option, PathParts, Plain, Profile, shape, shown, Some, Template, true, UnitShape, view, ℕ}
use Rattle.parallel_load.specs.{OwnLinkTargets.{AreOwnLinkTargets}, Universe.{IsSource}}
use Rattle.std.specs.FinMap as finmap

-- the name of an entry, if it is visible
abbrev pub shown_name : PathParts × Entry → Option Name
shown_name p = if is_some (shown p.1) then Some p.0.name else None

-- the visible names of a level
abbrev pub shown_names : HostViewMap → ℕ → List Name
shown_names s level = filter_map shown_name (filter (λ p. is_in level [] p.0) (finmap.entries (view s)))

abbrev pub is_template : UnitShape → Bool
is_template Plain = false
is_template Template = true
is_template Instance = false

-- the bytes as a unit name, if they are one and no template's
abbrev pub whole_name : Name → Option Name
whole_name n = if is_name n && not (is_template (shape n)) then Some n else None

-- These are the sources, with these names asked for, of each view by this profile that has these link targets.
abbrev pub AreSourcesBy : Profile → NamedWords → List Name → List Name → Type 0
AreSourcesBy profile words extra names = (s : HostViewMap) → s.profile ≡ profile → AreOwnLinkTargets s words → (n : Name) → IsAmong n names ↔ IsSource s extra n
