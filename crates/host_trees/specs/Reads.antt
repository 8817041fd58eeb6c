-- What a unit reads beside its main file, as a host sees it and as a store shows it that holds just the host's tree.
-- Source: systemd.unit(5), "Description"; that the two can differ is this project's own.
use Rattle.std.proofs.Common.{◌↔◌, ◌≡◌}
use Rattle.host_trees.specs.{Prelude.{Content, Edit, EntryMap, Fleet, Folder, folders, host_view_of, HostViewMap, IsDropInOf, IsLinkOf, List, Name, of_fleet, Option, PathParts, Some, Viewer, viewed_at, within, ℕ}, Trees.{fleets_at, stands_at}}

-- A unit with these folders has a drop-in with this file name and this content.
pub record HasDropInOf (v : HostViewMap) (fs : List Name) (file : List ℕ) (c : Content) : Type 0 where
  pub path : PathParts
  pub name_is : path.name ≡ file
  pub is_drop_in : IsDropInOf v fs path
  pub seen : viewed_at v path ≡ Some c

-- In its link folders of this sort it has a link with this file name, a unit's, and this content.
pub record HasLinkOf (v : HostViewMap) (fs : List Name) (folder : Folder) (file : List ℕ) (c : Content) : Type 0 where
  pub path : PathParts
  pub name_is : path.name ≡ file
  pub is_link : IsLinkOf v fs folder path
  pub seen : viewed_at v path ≡ Some c

-- The same of a unit with these names.
abbrev pub HasDropIn : HostViewMap → List Name → List ℕ → Content → Type 0
HasDropIn v names = HasDropInOf v (folders names)

abbrev pub HasLink : HostViewMap → List Name → Folder → List ℕ → Content → Type 0
HasLink v names = HasLinkOf v (folders names)

-- In two views a unit with these folders has the same drop-ins and links, by file name and content.
pub record ReadsAlikeOf (v w : HostViewMap) (fs : List Name) : Type 0 where
  pub drop_ins : (file : List ℕ) (c : Content) → HasDropInOf v fs file c ↔ HasDropInOf w fs file c
  pub links : (folder : Folder) (file : List ℕ) (c : Content) → HasLinkOf v fs folder file c ↔ HasLinkOf w fs folder file c

abbrev pub ReadsAlike : HostViewMap → HostViewMap → List Name → Type 0
ReadsAlike v w names = ReadsAlikeOf v w (folders names)

-- What the store `t` shows at the fleet's places is just the tree of a host of the store `s`, or its tree without a host.
abbrev pub ShowsTree : EntryMap → EntryMap → Option (List ℕ) → Type 0
ShowsTree t s host = (p : PathParts) → fleets_at t p ≡ stands_at s host p

-- A unit with these names has in the host's tree, read alone, the drop-ins and links that it has for the host.
abbrev pub ReadsItsTree : EntryMap → Viewer → List Name → Type 0
ReadsItsTree s viewer names = (t : EntryMap) → ShowsTree t s viewer.host → ReadsAlike (host_view_of s viewer) (host_view_of t (of_fleet viewer.profile)) names

-- It has others: the unit is crossed.
abbrev pub IsCrossed : EntryMap → Viewer → List Name → Type 0
IsCrossed s viewer names = ¬ ReadsItsTree s viewer names

-- The edit that writes a pair of a tree at the fleet's place. All have one version.
abbrev pub edit_at_fleet : PathParts × Content → Edit
edit_at_fleet e = record { place = within Fleet e.0; version = record { counter = 1; writer = 0 }; content = e.1 }
