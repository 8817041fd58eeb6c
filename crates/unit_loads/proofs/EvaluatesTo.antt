-- A unit has the effective settings of its files and its links.
use Rattle.std.proofs.Common.{◌++◌, ◌≡◌}
use Rattle.std.proofs.Common.{append_assoc, None, Option, refl, Some}
use Rattle.manager_additions.specs.Additions.{with_implied}
use Rattle.unit_loads.specs.{declared.units.Status.{Status}, Units.{files_with}}
use Rattle.unit_loads.proofs.Prelude.{[], ap, AreDropIns, AreLinkNames, assignments_of, borrowed_notes, bytes_at, Entry, entry_place, EvaluatesTo, file_notes, HasSettings, HostViewMap, items_of, items_with, LinkNames, List, lists_with, map, Name, notes_at, PathParts, PlaceParts, refuses, rows_of, setting_notes, settings_of, subst, sym, unit_of_parts, UnitParts, ◌∙◌}
use Rattle.unit_loads.proofs.Borrowed.{AreHeld, items_borrowed, notes_borrowed}
use Rattle.unit_loads.specs.declared.units.UnitNote.TheVariants as note

-- what files give is what the fragment gives, if there is one, and then what the drop-ins give
items_joined : (s : HostViewMap) (fragment : Option PlaceParts) (dropins : List PlaceParts) → items_of s (files_with fragment []) ++ items_of s dropins ≡ items_of s (files_with fragment dropins)
items_joined s None dropins = refl
items_joined s (Some fragment) dropins = append_assoc (assignments_of (bytes_at s fragment)) [] (items_of s dropins)

notes_joined : (s : HostViewMap) (fragment : Option PlaceParts) (dropins : List PlaceParts) → file_notes s (files_with fragment []) ++ file_notes s dropins ≡ file_notes s (files_with fragment dropins)
notes_joined s None dropins = refl
notes_joined s (Some fragment) dropins = append_assoc (notes_at s fragment) [] (file_notes s dropins)

module _ (s : HostViewMap) (fragment : Option PlaceParts) (borrowed : List (PathParts × Entry)) (unit : Name) (links : LinkNames) (found : UnitParts) (held : AreHeld s borrowed) (it : EvaluatesTo s fragment borrowed unit links found) where
  items : items_with s fragment borrowed ≡ items_of s (files_with fragment found.dropins)
  items = ap (λ xs. items_of s (files_with fragment []) ++ xs) (items_borrowed s borrowed held ∙ ap (items_of s) (sym it.dropins)) ∙ items_joined s fragment found.dropins

  lines : file_notes s (files_with fragment []) ++ borrowed_notes s borrowed ≡ file_notes s (files_with fragment found.dropins)
  lines = ap (λ ns. file_notes s (files_with fragment []) ++ ns) (notes_borrowed s borrowed held ∙ ap (file_notes s) (sym it.dropins)) ∙ notes_joined s fragment found.dropins

  pub has_settings : (names : List Name) (status : Status) → AreDropIns s names (map (entry_place s) borrowed) → AreLinkNames s names links → HasSettings s fragment (unit_of_parts unit names status found)
  has_settings names status dropins_are links_are = record {
    dropins_are = subst (λ (ps : List PlaceParts). AreDropIns s names ps) (sym it.dropins) dropins_are;
    links = links;
    links_are = links_are;
    values_are = it.values ∙ ap (λ xs. rows_of s.profile (settings_of s.profile xs) unit) items;
    deps_are = it.deps ∙ ap (λ xs. with_implied s.profile unit found.effective.values (lists_with s.profile (settings_of s.profile xs) unit links)) items;
    notes_are =
        it.notes ∙ ap (λ ns. ns ++ map note.Setting (setting_notes s.profile (items_with s fragment borrowed) unit links)) lines
        ∙ ap (λ xs. file_notes s (files_with fragment found.dropins) ++ map note.Setting (setting_notes s.profile xs unit links)) items;
    manual_is = it.manual ∙ ap (λ xs. refuses (settings_of s.profile xs)) items;
    defaults_are = it.defaults;
    mounts_are = it.mounts;
  }
