-- What the proofs use of std, of the crates below and of the definitions.
pub use Rattle.dropins.specs.{BorrowedLaws.{borrowed_are_drop_ins}, Prelude.{view}, Taken.{AreDropInsOf, entry_name}}
pub use Rattle.fragment_choice.specs.{ResolutionLaws.{mains_are_their_own, no_alias_stands}, Resolutions.{IsEnd}}
pub use Rattle.path_maps.specs.HostLaws.{what_is_in_view_has_a_place}
pub use Rattle.setting_rules.specs.Dependencies.{list_for}
pub use Rattle.std.{proofs.{Common.{[], ap, append-nil, append_assoc, arith, filter, get_or, inl, inr, is_none, length, List, map, refl, set, Some, subst, sym, take, ℕ, ◌∙◌}, lemmas.{List.{Elements.{filter-append, filter_map-append}, map-append, take_all}, Result.{IfOk-weaker}}}, specs.{Cmp.Lexicographic.{nat_list_cmp_total}, List.{Contains, Sorted.{IsStrictlySortedBy}}}}
pub use Rattle.unit_loads.specs.{declared.{found.UnitParts.{UnitParts}, links.LinkNames.{LinkNames}, units.UnitNote.TheVariants.{File, Setting}}, ElsewhereLaws.{near_paths_decide}, FootprintLaws.{footprints_decide, store_footprints_decide}, HostLaws.{hosts_without_places_have_these_files, hosts_without_places_have_these_units, hosts_without_places_name_alike}, NameLaws.{lists_ascend, lists_have_what_is_named, others_name_none, units_list_all_kinds}, Prelude.{among_from_contains, assignments_of, BadName, contains_from_among, content_at, DependencyList, DepKind, Entry, entry_place, first_there, Folder, folders, for_unit, HostViewMap, in_byte_order, IsAmong, IsAmong-append_cases, IsAmong-append_left, IsAmong-append_right, key_for, later_there, Name, name_cmp, names_ascend, names_by, names_stay, naming_kinds, note_on, notes_of, one_ascending_list, PathParts, PlaceParts, Profile, refuses, Requires, Resolution, resolution, rows_of, SettingMap, settings_of, shown, Wants, words_for}, Steps.{AreLinkNamesFrom, AreLinksFrom, borrowed_items, borrowed_notes, EvaluatesTo, items_with, unit_of_parts, with_linked}, TypeLaws.{units_have_one_type}, UnitLaws.{one_unit}, Units.{AreDropIns, AreLinkNames, AreLinks, bytes_at, file_bytes, file_notes, HasSettings, items_of, link_notes, linked_by, links_for, list_with, lists_with, notes_at, setting_notes}}
