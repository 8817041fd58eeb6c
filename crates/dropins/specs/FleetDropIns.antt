-- Drop-ins and links without hosts: from the fleet's paths, by rank. Only one law about hosts cites them.
-- Source: systemd.unit(5), "Description".
use Rattle.std.proofs.Common.{◌<◌, ◌≡◌}
use Rattle.dropins.specs.Prelude.{[], IsName, List, Name, option_and_then, PathMap, PathParts, shown_at, slice_get, Some, ℕ}
use Rattle.dropins.specs.{declared.{folder_lists.Folder.{Folder}, precedence.Search.{Search, TheVariants.{DropIns, Links}}}, FolderLists.{folders}, Taken.{as_found, Candidate, Candidate.{At}, dirs_by, dirs_with, ending, name_dirs, Owner, Precedes, type_dirs}}

-- The candidate is visible at the path, which is in one of the four directories and in the folder at this index of the
-- list.
pub record FleetStands (m : PathMap) (x : Search) (ds : List (List ℕ)) (c : Candidate) (p : PathParts) (place : ℕ) : Type 0 where
  pub rank_within : p.rank < 4
  pub folder_is : slice_get ds place ≡ Some p.folder
  pub says : option_and_then (as_found x p) (shown_at m p) ≡ Some c

-- The candidate at the path is taken for the path's file name, where `ds` are the folders of names and `ts` those of
-- types: of all candidates for this file name in either, it has the least turn, then the least rank, then the least
-- index.
pub record IsFleetTaken (m : PathMap) (x : Search) (ds ts : List (List ℕ)) (c : Candidate) (p : PathParts) : Type 0 where
  pub owner : Owner
  pub place : ℕ
  pub stands : FleetStands m x (dirs_by owner ds ts) c p place
  pub least : (d : Candidate) (q : PathParts) (o : Owner) (i : ℕ) → FleetStands m x (dirs_by o ds ts) d q i
      → q.name ≡ p.name → Precedes owner p.rank place o q.rank i

-- The path is a drop-in of a unit with these names.
abbrev pub IsFleetDropIn : PathMap → List Name → PathParts → Type 0
IsFleetDropIn m ns p = IsFleetTaken m DropIns (name_dirs (folders ns)) (type_dirs (folders ns)) (At p) p

-- The link folders of this sort of a unit with these names give the name `n`: it is a unit name, and a link is taken
-- for it. Types have no link folders.
pub record IsFleetLink (m : PathMap) (ns : List Name) (d : Folder) (n : Name) : Type 0 where
  pub name : IsName n
  pub path : PathParts
  pub name_is : path.name ≡ n
  pub taken : IsFleetTaken m Links (dirs_with (ending d) (folders ns)) [] (At path) path
