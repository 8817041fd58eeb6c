-- What the definitions use of std and of the crates below.
pub use Rattle.dropins.specs.{declared.{folder_lists.Folder.{Folder, TheVariants.{Requires, Wants}}, precedence.Search.{Search, TheVariants.{DropIns, Links}}}, FolderLists.{folders, listed, types_of, with_template}, HostLaws.{drop_ins_are_the_fleets, hosts_without_places_have_these_drop_ins, hosts_without_places_have_these_links}, OrderLaws.{drop_in_paths_are_files, one_order}, OverLaws.{folders_decide_over}, PrecedenceLaws.{folders_decide}, Prelude.{among_from_contains, contains_from_among, Content, content_at, content_viewed, Entry, EntryMap, File, first_there, Fleet, fleets_level, fleets_place, Gone, Host, host_view_of, HostViewMap, IsAmong, IsAmong-append_cases, IsAmong-append_left, IsAmong-append_right, Kind, kind, later_there, Link, Name, name_cmp, PathParts, PlaceParts, shown, ShowsNothing, template_of, viewed_at, viewed_place}, Taken.{Candidate, Candidate.{At}, dirs_by, dirs_with, ending, entry_place, file_name, IsDropIn, IsDropInAt, IsLinked, IsLinkedOf, IsTaken, name_dirs, Owner, Owner.{OfName, OfType}, type_dirs}, TypeLaws.{one_type}}
pub use Rattle.fragment_choice.specs.{ChoiceLaws.{IsOwnPath, own_paths_count, own_paths_decide}, declared.{choices.Choice.{Choice, TheVariants.{Fragment}}, resolutions.Resolution.{Resolution}}, FragmentLaws.{fragments_are_in_view, fragments_are_own, IsOwnFile, IsOwnFileOf}, HostLaws.{hosts_without_places_resolve_alike}, LeadsLaws.{leads_and_choice_decide, leads_decide_mains, SameLeads}, LikenessLaws.{mains_are_alike}, Prelude.{AreForOne, level_for, of_fleet, of_host, Profile, same_place, Viewer, visible_at}, ResolutionLaws.{choices_decide}, Resolutions.{main, resolution}, UnitNameLaws.{mains_decide, one_list_of_names}, UnitNames.{AreNames, IsOtherName}}
pub use Rattle.manager_additions.specs.Additions.{counted_for, facts_of, has_defaults_by, is_device_by, mounts_by, name_for, names_for, unless_device, with_implied, with_names}
pub use Rattle.unit_values.specs.BuiltIn.{is_built_in, is_perpetual}
pub use Rattle.implied_names.specs.{Implied.{implied_names}, ImpliedLaws.{implied_are_naming}}
pub use Rattle.list_laws.specs.Members.{first_or_later}
pub use Rattle.load_places.specs.declared.places.Scope.{Scope}
pub use Rattle.path_maps.specs.HostLaws.{places_decide_views}
pub use Rattle.profiles.specs.declared.profiles.Profile.TheVariants.{Files, Manager}
pub use Rattle.section_reader.specs.Sections.{assignments_of, notes_of}
pub use Rattle.setting_rules.specs.Places.{place as place_of_kind}
pub use Rattle.setting_rules.specs.{declared.{dependency_lists.DependencyList.{DependencyList}, keys.SettingKey.{SettingKey}, kinds.DepKind.{DepKind, TheVariants.{After, Before, BindsTo, BoundBy, ConflictedBy, Conflicts, ConsistsOf, InSlice, OnFailure, OnFailureOf, PartOf, PropagatesReloadTo, ReloadPropagatedFrom, RequiredBy, Requisite, RequisiteOf, SliceOf, TriggeredBy, Triggers, UpheldBy, Upholds, WantedBy}}, notes.{SettingNote.{SettingNote}, SettingNoteKind.{SettingNoteKind, TheVariants.{BadName}}}, rows.Row.{Row}, rules.KeyRule.TheVariants.{Dependency}}, Dependencies.{in_byte_order, key_for, named_by, names_by, word_notes, words_for}, KeyLaws.{same_key_is, same_key_itself}, Kinds.{is_settable, naming_kinds, word}, Maps.{same_key, SettingMap, values_at}, OrderLaws.{names_ascend, names_stay}, Prelude.{Assignment, one_ascending_list}, Rows.{escape_notes, rows_of}, Rules.{is_empty, Text}, Settings.{boolean_notes, counted, counts_by, given, gives, key_of, note_on, rule_at, settings_of}, Switches.{refuses}, Words.{for_unit, words_of}}
pub use Rattle.std.{proofs.{Common.{[], All, ap, Bool, codes, cond, Err, false, filter, inl, inr, is_none, is_some, IsSome, IsTrue, List, map, None, not, Ok, Option, refl, Result, slice_get, Some, subst, suc, sym, true, zero, ℕ, ◌∙◌}, lemmas.{Bool.{and_from, and_parts, eq-eqb, eqb-true, true≢false}, List.{Elements.{All-cons, All-nil}, Kept.{IsStrictlySortedBy-filter}}, Option.{same_Some}}}, specs.{Cmp.Lexicographic.{nat_list_cmp_total}, List.{AllByRecursion, cons_option, Contains, filter_map, flat_map, list_any}, Prelude.{nat_eq}, Result.{result_ok}}}
unfoldable pub use Rattle.std.specs.List.Sorted.{IsStrictlySortedBy}
pub use Rattle.unit_name.specs.declared.kinds.Kind.TheVariants.{Device}
