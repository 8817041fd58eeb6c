-- What a host sees of a store: entries by level, folder and name. Units are read from this and from nothing else of a
-- store.
-- Source: this project's own.
use Rattle.std.proofs.Common.{if◌then◌else◌, ◌%◌, ◌++◌, ◌+◌, ◌/◌, ◌==◌, ◌≡◌}
use Rattle.path_maps.specs.Prelude.{[], bytes_eq, code_by, Coded, coded_entry, coded_list, coded_option, coded_path, coded_ℕ, coded×, Content, Entry, EntryMap, Fleet, Host, List, map, None, Option, option_and_then, option_map, PathParts, PlaceParts, Profile, refl, Scope, Some, Viewer, ℕ}
use Rattle.path_maps.specs.{Folders.{path_at}, Scopes.{PathMap, scope_of, shown_at}}
use Rattle.profiles.specs.contracts.profiles.Profile as profile
use Rattle.std.specs.FinMap as finmap

-- A host, and what it has for itself.
pub record Own : Type 0 where
  pub host : List ℕ
  pub held : PathMap

-- What is seen: what a host has for itself, if there is a host, and what the fleet has. With it goes by which rules units
-- are loaded from it.
pub record HostViewMap : Type 0 where
  pub own : Option Own
  pub fleet : PathMap
  pub profile : Profile

-- What a host sees, or what is seen without a host. A host sees nothing of other hosts.
abbrev pub own_of : EntryMap → List ℕ → Own
own_of s host = record { host = host; held = scope_of s (Host host) }

abbrev pub host_view_of : EntryMap → Viewer → HostViewMap
host_view_of s viewer = record { own = option_map (own_of s) viewer.host; fleet = scope_of s Fleet; profile = viewer.profile }

-- Who the view is for: the host, if it is for one, and by which rules.
abbrev pub viewer_of : HostViewMap → Viewer
viewer_of v = record { host = option_map (λ own. own.host) v.own; profile = v.profile }

-- ---- by level

-- An entry at a level: its path has the level in place of its rank.
abbrev pub at_level : ℕ → PathParts × Entry → PathParts × Entry
at_level level e = (path_at level e.0.folder e.0.name, e.1)

-- A host's own entry of a rank is seen at level twice the rank, and an entry of the fleet at twice the rank plus one.
abbrev pub viewed_own : PathParts × Entry → PathParts × Entry
viewed_own e = at_level (e.0.rank + e.0.rank) e

abbrev pub viewed_fleets : PathParts × Entry → PathParts × Entry
viewed_fleets e = at_level (e.0.rank + e.0.rank + 1) e

abbrev pub entries_own : Option Own → List (PathParts × Entry)
entries_own None = []
entries_own (Some own) = map viewed_own (finmap.entries own.held)

-- What is seen, by level, folder and name.
unfoldable pub view : HostViewMap → PathMap
view v = finmap.from_entries (entries_own v.own ++ map viewed_fleets (finmap.entries v.fleet))

-- The level of a path at which something is seen.
abbrev pub level_of : PathParts → ℕ
level_of path = path.rank

-- The visible content that is seen at a path, which has the level in place of its rank.
abbrev pub viewed_at : HostViewMap → PathParts → Option Content
viewed_at v p = shown_at (view v) p

-- The scope whose directories have a level. Without a host, nothing is seen at the levels of a host.
abbrev pub own_scope : Option Own → Scope
own_scope None = Fleet
own_scope (Some own) = Host own.host

abbrev pub scope_at : HostViewMap → ℕ → Scope
scope_at v level = if level % 2 == 0 then own_scope v.own else Fleet

-- The place of what is seen at a path.
abbrev pub viewed_place : HostViewMap → PathParts → PlaceParts
viewed_place v p = record { scope = scope_at v p.rank; path = path_at (p.rank / 2) p.folder p.name }

-- Both views are for the same host, or both are without a host; and both are by the same rules.
abbrev pub AreForOne : HostViewMap → HostViewMap → Type 0
AreForOne v w = (own_scope v.own ≡ own_scope w.own) × (v.profile ≡ w.profile)

-- ---- by place

-- What the host of a view has for itself, if this is its name.
abbrev pub held_by_own : Own → List ℕ → Option PathMap
held_by_own own host = if bytes_eq host own.host then Some own.held else None

-- What is seen of a scope.
abbrev pub held_by : HostViewMap → Scope → Option PathMap
held_by v Fleet = Some v.fleet
held_by v (Host host) = option_and_then (λ own. held_by_own own host) v.own

-- The visible content at a place that is seen.
abbrev pub content_at : HostViewMap → PlaceParts → Option Content
content_at v place = option_and_then (λ held. shown_at held place.path) (held_by v place.scope)

-- ---- how a view is encoded

abbrev pub coded_own : Coded Own
coded_own = code_by (List ℕ × PathMap) (coded× (coded_list coded_ℕ) (finmap.code coded_path coded_entry)) (λ o. (o.host, o.held)) (λ t. record { host = t.0; held = t.1 }) (λ _. refl)

abbrev pub coded_host_view : Coded HostViewMap
coded_host_view =
    code_by (Option Own × (PathMap × Profile))
    (coded× (coded_option coded_own) (coded× (finmap.code coded_path coded_entry) (profile.the_row).coded))
    (λ v. (v.own, (v.fleet, v.profile)))
    (λ t. record { own = t.0; fleet = t.1.0; profile = t.1.1 }) (λ _. refl)
