-- How files and links are put together: words for private clauses.
-- Source: this project's own.
use Rattle.std.proofs.Common.{◌++◌, ◌↔◌, ◌≡◌}
use Rattle.unit_loads.specs.Prelude.{[], Assignment, assignments_of, Contains, Entry, entry_place, flat_map, Folder, HostViewMap, in_byte_order, IsLinkedOf, IsStrictlySortedBy, List, map, Name, name_cmp, notes_of, Option, PathParts, PlaceParts, refuses, Requires, rows_of, settings_of, shown, Wants, has_defaults_by, mounts_by, with_implied}
use Rattle.unit_loads.specs.{declared.{found.UnitParts.{UnitParts}, links.LinkNames.{LinkNames}, units.{Status.{Status}, Unit.{Unit as LoadedUnit}, UnitNote.{UnitNote}}}, Units.{file_bytes, file_notes, files_with, items_of, lists_with, setting_notes}}
use Rattle.unit_loads.specs.declared.units.UnitNote.TheVariants as note

-- the assignments of borrowed files, file by file
abbrev pub borrowed_items : List (PathParts × Entry) → List Assignment
borrowed_items ps = flat_map (λ p. assignments_of (file_bytes (shown p.1))) ps

-- the notes on their lines, with their places
abbrev pub borrowed_notes : HostViewMap → List (PathParts × Entry) → List UnitNote
borrowed_notes s ps = flat_map (λ p. map (note.File (entry_place s p)) (notes_of (file_bytes (shown p.1)))) ps

-- the assignments of a fragment in a store, and of borrowed drop-ins
abbrev pub items_with : HostViewMap → Option PlaceParts → List (PathParts × Entry) → List Assignment
items_with s fragment borrowed = items_of s (files_with fragment []) ++ borrowed_items borrowed

-- the link folders of this sort in a list of folders give these names, in byte order
pub record AreLinksFrom (s : HostViewMap) (folders : List Name) (folder : Folder) (links : List Name) : Type 0 where
  pub ascending : IsStrictlySortedBy name_cmp links
  pub exact : (n : Name) → Contains links n ↔ IsLinkedOf s folders folder n

-- these are the names that the link folders in a list of folders give
pub record AreLinkNamesFrom (s : HostViewMap) (folders : List Name) (links : LinkNames) : Type 0 where
  pub wanted_are : AreLinksFrom s folders Wants links.wanted
  pub required_are : AreLinksFrom s folders Requires links.required

-- names with those that links add, all in byte order; unchanged if links add none
abbrev pub with_linked : List Name → List Name → List Name
with_linked names [] = names
with_linked names linked = in_byte_order (names ++ linked)

-- the effective settings of a fragment in a store, of borrowed drop-ins, and of links, for a unit
pub record EvaluatesTo (s : HostViewMap) (fragment : Option PlaceParts) (borrowed : List (PathParts × Entry))
    (unit : Name) (links : LinkNames) (found : UnitParts) : Type 0 where
  pub dropins : found.dropins ≡ map (entry_place s) borrowed
  pub values : found.effective.values ≡ rows_of s.profile (settings_of s.profile (items_with s fragment borrowed)) unit
  pub deps : found.effective.deps ≡ with_implied s.profile unit found.effective.values
      (lists_with s.profile (settings_of s.profile (items_with s fragment borrowed)) unit links)
  pub notes : found.effective.notes ≡ (file_notes s (files_with fragment []) ++ borrowed_notes s borrowed)
      ++ map note.Setting (setting_notes s.profile (items_with s fragment borrowed) unit links)
  pub manual : found.effective.manual ≡ refuses (settings_of s.profile (items_with s fragment borrowed))
  pub defaults : found.effective.has_defaults ≡ has_defaults_by s.profile unit found.effective.values
  pub mounts : found.effective.mounts ≡ mounts_by s.profile unit found.effective.values

-- the unit with these names and this status
abbrev pub unit_of_parts : Name → List Name → Status → UnitParts → LoadedUnit
unit_of_parts name names status found = record {
  name = name;
  names = names;
  status = status;
  dropins = found.dropins;
  values = found.effective.values;
  deps = found.effective.deps;
  notes = found.effective.notes;
  manual = found.effective.manual;
  has_defaults = found.effective.has_defaults;
  mounts = found.effective.mounts;
}
