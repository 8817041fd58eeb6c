-- The footprint of a unit: the first components of the paths at which a view can affect it, apart from aliases.
-- Source: systemd.unit(5), "Description" and "Unit File Load Path".
use Rattle.std.proofs.Common.{◌++◌, ◌≡◌}
use Rattle.unit_loads.specs.{Elsewhere.{unit_folders}, Prelude.{[], EntryMap, HostViewMap, IsAmong, IsSome, level_for, List, Name, PathParts, PlaceParts, viewed_at, Viewer, visible_at, with_template, ℕ}}

-- the unit's name, the template of an instance, and the folders of a unit with these names with their endings, its
-- type's too
abbrev pub footprint : Name → List Name → List (List ℕ)
footprint name names = with_template name ++ unit_folders names

-- the path's first component is one of these
pub data StartsIn (parts : List (List ℕ)) (p : PathParts) : Type 0 where
  alone : p.folder ≡ [] → IsAmong p.name parts → StartsIn parts p
  within : IsAmong p.folder parts → StartsIn parts p

-- two views show the same at each path that begins with one of these
abbrev pub AgreeIn : HostViewMap → HostViewMap → List (List ℕ) → Type 0
AgreeIn s t parts = (p : PathParts) → StartsIn parts p → viewed_at s p ≡ viewed_at t p

-- two stores show the same at each such place that this host sees
abbrev pub StoresAgreeIn : EntryMap → EntryMap → Viewer → List (List ℕ) → Type 0
StoresAgreeIn s t viewer parts =
    (place : PlaceParts) → StartsIn parts place.path → IsSome (level_for viewer place) → visible_at s place ≡ visible_at t place
