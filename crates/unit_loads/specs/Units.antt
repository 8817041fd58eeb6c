-- One loaded unit: the effective settings of its files and its links, and what a manager adds.
-- Source: systemd.unit(5), "Description" and "Unit File Load Path"; the order of the notes is this project's own.
use Rattle.std.proofs.Common.{◌++◌, ◌↔◌, ◌∷◌, ◌≡◌}
use Rattle.unit_loads.specs.Prelude.{[], AreNames, Assignment, assignments_of, BadName, Bool, boolean_notes, Choice, Contains, Content, content_at, DependencyList, DepKind, escape_notes, false, File, file_name, filter, filter_map, flat_map, Folder, for_unit, Gone, HostViewMap, in_byte_order, is_none, IsDropInAt, IsLinked, IsStrictlySortedBy, key_for, Link, List, main, map, Name, name_cmp, names_by, naming_kinds, None, note_on, notes_of, Option, PlaceParts, Profile, refuses, Requires, resolution, rows_of, SettingMap, SettingNote, settings_of, Some, true, Wants, word_notes, words_for, ℕ, has_defaults_by, mounts_by, with_implied}
use Rattle.unit_loads.specs.{WithoutFiles.{is_loaded_without_file}, declared.{links.LinkNames.{LinkNames}, units.{Status.{Status, TheVariants.{Bad, BuiltIn, Loaded, Masked, NotFound}}, Unit.{Unit as LoadedUnit}, UnitNote.{UnitNote}}}}
use Rattle.setting_rules.specs.declared.kinds.DepKind.TheVariants as kind
use Rattle.fragment_choice.specs.declared.choices.Choice.TheVariants as choice
use Rattle.unit_loads.specs.declared.units.UnitNote.TheVariants as note

-- ---- files

-- the bytes of a content that is a file
abbrev pub file_bytes : Option Content → List ℕ
file_bytes None = []
file_bytes (Some Gone) = []
file_bytes (Some (Link target)) = []
file_bytes (Some (File bytes)) = bytes

-- the bytes of the file that is visible at a place
abbrev pub bytes_at : HostViewMap → PlaceParts → List ℕ
bytes_at s p = file_bytes (content_at s p)

-- the assignments of files, file by file
abbrev pub items_of : HostViewMap → List PlaceParts → List Assignment
items_of s files = flat_map (λ p. assignments_of (bytes_at s p)) files

-- the notes on the lines of a file, with its place
abbrev pub notes_at : HostViewMap → PlaceParts → List UnitNote
notes_at s p = map (note.File p) (notes_of (bytes_at s p))

-- the notes on the lines of files, file by file
abbrev pub file_notes : HostViewMap → List PlaceParts → List UnitNote
file_notes s files = flat_map (notes_at s) files

-- these are the drop-ins of a unit with these names, in the order of their file names
pub record AreDropIns (s : HostViewMap) (names : List Name) (dropins : List PlaceParts) : Type 0 where
  pub ascending : IsStrictlySortedBy name_cmp (map file_name dropins)
  pub exact : (p : PlaceParts) → Contains dropins p ↔ IsDropInAt s names p

-- ---- links

-- the link folders of this sort of a unit with these names give these names, in byte order
pub record AreLinks (s : HostViewMap) (names : List Name) (folder : Folder) (links : List Name) : Type 0 where
  pub ascending : IsStrictlySortedBy name_cmp links
  pub exact : (n : Name) → Contains links n ↔ IsLinked s names folder n

-- these are the names that the link folders of a unit with these names give
pub record AreLinkNames (s : HostViewMap) (names : List Name) (links : LinkNames) : Type 0 where
  pub wanted_are : AreLinks s names Wants links.wanted
  pub required_are : AreLinks s names Requires links.required

-- those that add to the dependencies of a kind
abbrev pub links_for : LinkNames → DepKind → List Name
links_for links kind.Wants = links.wanted
links_for links kind.Requires = links.required
links_for links other = []

-- the units that a unit means by link names
abbrev pub linked_by : Name → List Name → List Name
linked_by unit links = filter_map (for_unit unit) links

-- a note on each link name by which a unit means no unit
abbrev pub link_notes : Name → DepKind → List Name → List SettingNote
link_notes unit dep links = map (λ _. note_on (key_for dep) BadName) (filter (λ link. is_none (for_unit unit link)) links)

-- ---- dependencies and notes

-- the names that a unit's words and links give for a kind
abbrev pub list_with : Profile → SettingMap → Name → LinkNames → DepKind → DependencyList
list_with profile entries unit links dep = record { kind = dep; names = in_byte_order (names_by unit (words_for profile entries dep) ++ linked_by unit (links_for links dep)) }

-- A list for each kind by which a unit may name another, in the order of the kinds.
abbrev pub lists_with : Profile → SettingMap → Name → LinkNames → List DependencyList
lists_with profile entries unit links = map (list_with profile entries unit links) naming_kinds

-- the same with no names
abbrev pub no_names : List DependencyList
no_names = map (λ dep. record { kind = dep; names = [] }) naming_kinds

-- the notes on words and then on links
abbrev pub dependency_notes : Profile → SettingMap → Name → LinkNames → List SettingNote
dependency_notes profile entries unit links = word_notes profile entries unit ++ link_notes unit kind.Wants links.wanted ++ link_notes unit kind.Requires links.required

-- the notes on settings: on booleans, on values that can't be expanded, on dependencies
abbrev pub setting_notes : Profile → List Assignment → Name → LinkNames → List SettingNote
setting_notes profile items unit links = boolean_notes profile items ++ escape_notes profile (settings_of profile items) unit ++ dependency_notes profile (settings_of profile items) unit links

-- ---- the unit

-- the status is that of a name's choice
abbrev pub IsChoicesStatus : Choice → Status → Type 0
IsChoicesStatus choice.NotFound status = status ≡ NotFound
IsChoicesStatus choice.Masked status = status ≡ Masked
IsChoicesStatus (choice.Fragment place) status = status ≡ Loaded place
IsChoicesStatus (choice.Alias other) status = ⊥
IsChoicesStatus (choice.Bad cause) status = status ≡ Bad cause

abbrev pub IsStatusBy : Bool → Choice → Status → Type 0
IsStatusBy true choice status = status ≡ BuiltIn
IsStatusBy false choice status = IsChoicesStatus choice status

-- The unit's status is that of its name's choice, but where a manager loads it without a file.
abbrev pub IsStatus : Profile → Name → Choice → Status → Type 0
IsStatus profile unit choice status = IsStatusBy (is_loaded_without_file profile unit choice) choice status

-- by this status a unit is loaded, from a file or without one
abbrev pub is_loaded_by : Status → Bool
is_loaded_by (Loaded place) = true
is_loaded_by BuiltIn = true
is_loaded_by NotFound = false
is_loaded_by Masked = false
is_loaded_by (Bad cause) = false

-- the place of the fragment of a unit with this status
abbrev pub fragment_by : Status → Option PlaceParts
fragment_by (Loaded place) = Some place
fragment_by BuiltIn = None
fragment_by NotFound = None
fragment_by Masked = None
fragment_by (Bad cause) = None

-- the files of a unit with this fragment, or none, and these drop-ins
abbrev pub files_with : Option PlaceParts → List PlaceParts → List PlaceParts
files_with None dropins = dropins
files_with (Some fragment) dropins = fragment ∷ dropins

-- the settings of a unit with this fragment, or none, and these drop-ins
abbrev pub settings_in : HostViewMap → Option PlaceParts → List PlaceParts → SettingMap
settings_in s fragment dropins = settings_of s.profile (items_of s (files_with fragment dropins))

-- the unit has the effective settings of its files and links, with its fragment, or none
pub record HasSettings (s : HostViewMap) (fragment : Option PlaceParts) (unit : LoadedUnit) : Type 0 where
  pub dropins_are : AreDropIns s unit.names unit.dropins
  pub links : LinkNames
  pub links_are : AreLinkNames s unit.names links
  pub values_are : unit.values ≡ rows_of s.profile (settings_in s fragment unit.dropins) unit.name
  pub deps_are : unit.deps ≡ with_implied s.profile unit.name unit.values
      (lists_with s.profile (settings_in s fragment unit.dropins) unit.name links)
  pub notes_are : unit.notes ≡ file_notes s (files_with fragment unit.dropins) ++ map note.Setting
      (setting_notes s.profile (items_of s (files_with fragment unit.dropins)) unit.name links)
  pub manual_is : unit.manual ≡ refuses (settings_in s fragment unit.dropins)
  pub defaults_are : unit.has_defaults ≡ has_defaults_by s.profile unit.name unit.values
  pub mounts_are : unit.mounts ≡ mounts_by s.profile unit.name unit.values

-- the unit has neither drop-ins nor settings, and names no other
pub record HasNothing (unit : LoadedUnit) : Type 0 where
  pub no_dropins : unit.dropins ≡ []
  pub no_values : unit.values ≡ []
  pub no_deps : unit.deps ≡ no_names
  pub no_notes : unit.notes ≡ []
  pub not_manual : unit.manual ≡ false
  pub no_defaults : unit.has_defaults ≡ false
  pub no_mounts : unit.mounts ≡ []

-- the unit has everything that its status requires
abbrev pub HasAllOf : HostViewMap → LoadedUnit → Status → Type 0
HasAllOf s unit (Loaded fragment) = HasSettings s (Some fragment) unit
HasAllOf s unit BuiltIn = HasSettings s None unit
HasAllOf s unit NotFound = HasNothing unit
HasAllOf s unit Masked = HasNothing unit
HasAllOf s unit (Bad cause) = HasNothing unit

-- This is the unit with a main name in a view of a store.
pub record IsUnit (s : HostViewMap) (name : Name) (unit : LoadedUnit) : Type 0 where
  pub main_is : main s name ≡ name
  pub name_is : unit.name ≡ name
  pub names_are : AreNames s name unit.names
  pub status_is : IsStatus s.profile name (resolution s name).choice unit.status
  pub has : HasAllOf s unit unit.status
