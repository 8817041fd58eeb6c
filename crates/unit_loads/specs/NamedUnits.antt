-- The units that a unit names.
-- Source: systemd.unit(5), "[Unit] Section Options" and "Description".
use Rattle.std.proofs.Common.{◌≡◌, ◌⊎◌}
use Rattle.unit_loads.specs.Prelude.{AreNames, Assignment, Before, codes, Contains, DependencyList, DepKind, Folder, for_unit, HostViewMap, implied_names, is_settable, IsLinked, IsTrue, kind as kind_by_name, List, Manager, Name, named_by, not, Ok, Option, PlaceParts, Profile, Requires, resolution, rows_of, Some, Wants, word, words_of, ℕ, facts_of, is_device_by}
use Rattle.unit_loads.specs.{declared.units.Status.{Status}, Units.{AreDropIns, files_with, fragment_by, is_loaded_by, IsStatus, items_of, settings_in}}
use Rattle.setting_rules.specs.declared.kinds.DepKind.TheVariants as kind

-- one of the assignments has the word in a key of `[Unit]` that sets this kind by the profile
pub record IsAssigned (profile : Profile) (items : List Assignment) (dep : DepKind) (text : List ℕ) : Type 0 where
  pub settable : IsTrue (is_settable profile dep)
  pub assignment : Assignment
  pub there : Contains items assignment
  pub section_is : assignment.section ≡ codes "Unit"
  pub key_is : assignment.key ≡ word dep
  pub has_word : Contains (words_of assignment.value) text

-- The unit is loaded, and this is its fragment, or none where a manager loads it without a file.
pub record IsLoadedFrom (s : HostViewMap) (unit : Name) (fragment : Option PlaceParts) : Type 0 where
  pub status : Status
  pub status_is : IsStatus s.profile unit (resolution s unit).choice status
  pub loaded : IsTrue (is_loaded_by status)
  pub fragment_is : fragment_by status ≡ fragment

-- a word of the unit's files names v for a kind
pub record IsNamedByWord (s : HostViewMap) (unit : Name) (dep : DepKind) (v : Name) : Type 0 where
  pub names : List Name
  pub names_are : AreNames s unit names
  pub fragment : Option PlaceParts
  pub loaded : IsLoadedFrom s unit fragment
  pub dropins : List PlaceParts
  pub dropins_are : AreDropIns s names dropins
  pub text : List ℕ
  pub assigned : IsAssigned s.profile (items_of s (files_with fragment dropins)) dep text
  pub named : named_by unit text ≡ Ok v

-- a link in a folder of this sort of the unit, which is loaded, gives v
pub record IsNamedByLink (s : HostViewMap) (unit : Name) (folder : Folder) (v : Name) : Type 0 where
  pub names : List Name
  pub names_are : AreNames s unit names
  pub fragment : Option PlaceParts
  pub loaded : IsLoadedFrom s unit fragment
  pub link : Name
  pub linked : IsLinked s names folder link
  pub named : for_unit unit link ≡ Some v

-- the kind to which the links of a folder add
abbrev pub kind_of : Folder → DepKind
kind_of Wants = kind.Wants
kind_of Requires = kind.Requires

-- the unit implies v by a kind for a manager, by its name and its effective values
pub record IsImplied (s : HostViewMap) (unit : Name) (dep : DepKind) (v : Name) : Type 0 where
  pub by_manager : s.profile ≡ Manager
  pub names : List Name
  pub names_are : AreNames s unit names
  pub fragment : Option PlaceParts
  pub loaded : IsLoadedFrom s unit fragment
  pub dropins : List PlaceParts
  pub dropins_are : AreDropIns s names dropins
  pub implied : Contains (implied_names (facts_of unit (rows_of s.profile (settings_in s fragment dropins) unit))) (dep, v)

-- Before a device a manager orders nothing.
abbrev pub Counts : Profile → DepKind → Name → Type 0
Counts Manager Before v = IsTrue (not (is_device_by (kind_by_name v)))
Counts profile dep v = Unit {0}

-- The unit names v in a way of this kind: by a word of its files, by a link, or as a manager implies it.
abbrev pub IsNamed : HostViewMap → Name → DepKind → Name → Type 0
IsNamed s unit dep v = Counts s.profile dep v × (IsNamedByWord s unit dep v ⊎ ((folder : Folder) × (kind_of folder ≡ dep) × IsNamedByLink s unit folder v) ⊎ IsImplied s unit dep v)

-- lists of dependencies have v in one of this kind
pub record IsListed (lists : List DependencyList) (dep : DepKind) (v : Name) : Type 0 where
  pub list : DependencyList
  pub there : Contains lists list
  pub kind_is : list.kind ≡ dep
  pub has_name : Contains list.names v
