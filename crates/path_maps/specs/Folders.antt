-- Paths by their parts, and the paths of a folder.
-- Source: this project's own.
use Rattle.std.{proofs.Common.{◌&&◌, ◌==◌}, specs.FinMap.{find}}
use Rattle.path_maps.specs.{PathMaps.{bytes_cmp, NameMap, RankMap}, Prelude.{Bool, bytes_eq, eq_by_cmp, List, nat_cmp, or_empty, PathParts, PlaceParts, Scope, scope_cmp, ℕ}}

-- The path of these parts.
abbrev pub path_at : ℕ → List ℕ → List ℕ → PathParts
path_at rank folder name = record { rank = rank; folder = folder; name = name }

-- The path is in this folder of the directory of this rank. The empty folder has the paths of one component.
abbrev pub is_in : ℕ → List ℕ → PathParts → Bool
is_in rank folder path = (path.rank == rank) && bytes_eq path.folder folder

-- The place is in this scope, and its path is in this folder.
abbrev pub is_within : Scope → ℕ → List ℕ → PlaceParts → Bool
is_within scope rank folder place = eq_by_cmp scope_cmp scope place.scope && is_in rank folder place.path

-- The names of a folder, by two look-ups.
abbrev pub names_in : RankMap → ℕ → List ℕ → NameMap
names_in m rank folder = or_empty (find bytes_cmp folder (or_empty (find nat_cmp rank m)))
