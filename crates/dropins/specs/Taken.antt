-- Drop-ins and links: what stands for a file name in the folders of names, and what of it is taken.
-- Source: systemd.unit(5), "Description"; that the level goes before the closeness of a folder, and that types' folders come after every folder of a name, whatever the levels, is this project's own.
use Rattle.std.proofs.Common.{if◌then◌else◌, ◌&&◌, ◌++◌, ◌-◌, ◌<◌, ◌↔◌, ◌∷◌, ◌≡◌, ◌≤◌, ◌⊎◌}
use Rattle.dropins.specs.Prelude.{[], Bool, bytes_eq, codes, Contains, Content, drop, Entry, File, Gone, HostViewMap, IsLevel, IsName, length, level_of, Link, List, map, Name, nat_lt, None, Option, option_and_then, PathParts, PlaceParts, slice_get, Some, view, viewed_at, viewed_place, ℕ}
use Rattle.dropins.specs.{declared.{folder_lists.Folder.{Folder, TheVariants.{Requires, Wants}}, precedence.Search.{Search, TheVariants.{DropIns, Links}}}, FolderLists.{folders, types_of}}
use Rattle.std.specs.FinMap as finmap

-- what stands for a file name in a folder: it takes the place and gives nothing, or it gives what is at this path
pub data Candidate : Type 0 where
  Mask : Candidate
  At : PathParts → Candidate

-- whether a file name ends in .conf and is longer
abbrev pub is_conf : List ℕ → Bool
is_conf f = nat_lt 5 (length f) && bytes_eq (drop (length f - 5) f) (codes ".conf")

-- whether a link leads to /dev/null
abbrev pub is_null : List ℕ → Bool
is_null target = bytes_eq target (codes "/dev/null")

-- what a content is among drop-ins: a file's path; a mask where the file is empty or a link leads to /dev/null; else nothing
abbrev pub content_as_drop_in : PathParts → Content → Option Candidate
content_as_drop_in p Gone = None
content_as_drop_in p (File []) = Some Mask
content_as_drop_in p (File (b ∷ bs)) = Some (At p)
content_as_drop_in p (Link target) = if is_null target then Some Mask else None

-- the same, where the file name is a drop-in's
abbrev pub as_drop_in : PathParts → Content → Option Candidate
as_drop_in p c = if is_conf p.name then content_as_drop_in p c else None

-- what a content is among links: a link's path, or a mask where it leads to /dev/null; files are nothing
abbrev pub as_link : PathParts → Content → Option Candidate
as_link p Gone = None
as_link p (File bytes) = None
as_link p (Link target) = if is_null target then Some Mask else Some (At p)

-- what a content is in a search
abbrev pub as_found : Search → PathParts → Content → Option Candidate
as_found DropIns p c = as_drop_in p c
as_found Links p c = as_link p c

-- the candidate that is visible at a path
abbrev pub candidate_at : HostViewMap → Search → PathParts → Option Candidate
candidate_at s x p = option_and_then (as_found x p) (viewed_at s p)

-- this candidate is seen at the path, which is in the folder of this place of the list, at one of the levels
pub record Stands (s : HostViewMap) (x : Search) (ds : List (List ℕ)) (c : Candidate) (p : PathParts) (place : ℕ) : Type 0 where
  pub level_within : IsLevel (level_of p)
  pub folder_is : slice_get ds place ≡ Some p.folder
  pub says : candidate_at s x p ≡ Some c

-- the candidate at the path is taken for the path's file name: of all that stand for it, it has the least level, and in that level the first folder of the list
pub record IsTaken (s : HostViewMap) (x : Search) (ds : List (List ℕ)) (c : Candidate) (p : PathParts) : Type 0 where
  pub place : ℕ
  pub stands : Stands s x ds c p place
  pub least : (d : Candidate) (q : PathParts) (i : ℕ) → Stands s x ds d q i → q.name ≡ p.name
      → (level_of p < level_of q) ⊎ ((level_of p ≡ level_of q) × (place ≤ i))

-- whose folder one is: a name's, or a type's
pub data Owner : Type 0 where
  OfName : Owner
  OfType : Owner

-- the folders of names, or those of types
abbrev pub dirs_by : Owner → List (List ℕ) → List (List ℕ) → List (List ℕ)
dirs_by OfName ds ts = ds
dirs_by OfType ds ts = ts

-- 0 for a folder of a name, and 1 for a type's
abbrev pub turn : Owner → ℕ
turn OfName = 0
turn OfType = 1

-- a folder's owner, a level and a place in the owner's list come no later than others: first the turn counts, then the level, then the place
abbrev pub Precedes : Owner → ℕ → ℕ → Owner → ℕ → ℕ → Type 0
Precedes a l i b m j = (turn a < turn b) ⊎ ((turn a ≡ turn b) × ((l < m) ⊎ ((l ≡ m) × (i ≤ j))))

-- the candidate at the path is taken for the path's file name, where ds are folders of names and ts those of types: of all that stand for it in either, it has the least turn, level and place
pub record IsTakenOver (s : HostViewMap) (x : Search) (ds ts : List (List ℕ)) (c : Candidate) (p : PathParts) : Type 0 where
  pub owner : Owner
  pub place : ℕ
  pub stands : Stands s x (dirs_by owner ds ts) c p place
  pub least : (d : Candidate) (q : PathParts) (o : Owner) (i : ℕ) → Stands s x (dirs_by o ds ts) d q i → q.name ≡ p.name
      → Precedes owner (level_of p) place o (level_of q) i

-- what is taken for a file name
pub record TakenFor (s : HostViewMap) (x : Search) (ds : List (List ℕ)) (f : List ℕ) (c : Candidate) : Type 0 where
  pub path : PathParts
  pub name_is : path.name ≡ f
  pub taken : IsTaken s x ds c path

-- what a folder's name has behind a unit's
abbrev pub ending : Folder → List ℕ
ending Wants = codes ".wants"
ending Requires = codes ".requires"

-- these folders with this ending
abbrev pub dirs_with : List ℕ → List Name → List (List ℕ)
dirs_with end fs = map (λ n. n ++ end) fs

-- the folders of drop-ins that have these names, and those that have the names' types
abbrev pub name_dirs : List Name → List (List ℕ)
name_dirs fs = dirs_with (codes ".d") fs

abbrev pub type_dirs : List Name → List (List ℕ)
type_dirs fs = dirs_with (codes ".d") (types_of fs)

-- the path is a drop-in of a unit with these folders: it is taken in them, or else in those of their types
abbrev pub IsDropInOf : HostViewMap → List Name → PathParts → Type 0
IsDropInOf s fs p = IsTakenOver s DropIns (name_dirs fs) (type_dirs fs) (At p) p

-- the path is a drop-in of a unit of these names
abbrev pub IsDropIn : HostViewMap → List Name → PathParts → Type 0
IsDropIn s ns p = IsDropInOf s (folders ns) p

-- the same of a place: it is that of a path which is one
abbrev pub IsDropInAtOf : HostViewMap → List Name → PlaceParts → Type 0
IsDropInAtOf s fs place = (p : PathParts) × (viewed_place s p ≡ place) × IsDropInOf s fs p

abbrev pub IsDropInAt : HostViewMap → List Name → PlaceParts → Type 0
IsDropInAt s ns place = IsDropInAtOf s (folders ns) place

-- the link folders of this sort of a unit with these folders give this name: it is a unit's, and a link is taken for it
pub record IsLinkedOf (s : HostViewMap) (fs : List Name) (d : Folder) (n : Name) : Type 0 where
  pub name : IsName n
  pub path : PathParts
  pub name_is : path.name ≡ n
  pub taken : IsTaken s Links (dirs_with (ending d) fs) (At path) path

-- and those of a unit of these names
abbrev pub IsLinked : HostViewMap → List Name → Folder → Name → Type 0
IsLinked s ns d n = IsLinkedOf s (folders ns) d n

-- the path is a link in the link folders of this sort of a unit with these folders: it is taken there, and its file name is a unit's
abbrev pub IsLinkOf : HostViewMap → List Name → Folder → PathParts → Type 0
IsLinkOf s fs d p = IsName p.name × IsTaken s Links (dirs_with (ending d) fs) (At p) p

abbrev pub file_name : PlaceParts → List ℕ
file_name place = place.path.name

-- the place of an entry that is seen, and its file name
abbrev pub entry_place : HostViewMap → PathParts × Entry → PlaceParts
entry_place s p = viewed_place s p.0

abbrev pub entry_name : PathParts × Entry → List ℕ
entry_name p = p.0.name

-- these entries are those that are seen at the drop-ins of a unit with these folders
abbrev pub AreDropInsOf : HostViewMap → List Name → List (PathParts × Entry) → Type 0
AreDropInsOf s fs ps = (p : PathParts × Entry) → Contains ps p ↔ (IsDropInOf s fs p.0 × (finmap.get (view s) p.0 ≡ Some p.1))

-- these entries are those that are seen at the links in such folders
abbrev pub AreLinksOf : HostViewMap → List Name → Folder → List (PathParts × Entry) → Type 0
AreLinksOf s fs d ps = (p : PathParts × Entry) → Contains ps p ↔ (IsLinkOf s fs d p.0 × (finmap.get (view s) p.0 ≡ Some p.1))
