-- What the proofs use of std, of the crates below and of the definitions.
pub use Rattle.dropins.specs.{BorrowedLaws.{borrowed_are_drop_ins, held_there, made_there}, CutLaws.{cuts_are_dashed_prefixes, longer_cuts_come_first}, declared.{folder_lists.Folder.{Folder}, precedence.{Search.{Search, TheVariants.{Links}}, Take.{Take, TheVariants.{Nothing, Placed}}}}, FolderJoinLaws.{folders_join, folders_of_each}, FolderLaws.{folders_are_names, folders_stand_once, one_folder}, FolderLists.{firsts, folders, folders_of, is_among, is_dash, prefixes, types_of, with_name, with_prefix, with_template}, FolderOrderLaws.{folders_of_instances, folders_of_other_names}, HostLaws.{drop_ins_are_the_fleets, hosts_without_places_have_these_drop_ins, hosts_without_places_have_these_links, links_are_the_fleets}, Listings.{IsKept}, OrderLaws.{drop_ins_are_files, one_order}, OverLaws.{names_or_else_types, NoneStands, over_is_either, over_none, over_of_names, over_of_types}, PrecedenceLaws.{folders_decide, levels_go_first, something_is_taken, taken_once}, Prelude.{Entry, first_is, first_said, host_view_of, HostViewMap, Instance, instance, is_empty, IsAmong, IsName, Kind, kind, level_is, levels, Name, name_cmp, name_with, none_there, only_one, path_cmp, path_cmp-IsAntisymmetric, path_cmp_total, PathParts, PlaceParts, Plain, prefix, prefixes_may_be_cut, Shape, shape, shown, suffix, suffix_is_word, Template, view, word}, Taken.{AreLinksOf, as_found, Candidate, Candidate.{At, Mask}, candidate_at, dirs_with, ending, entry_name, entry_place, file_name, IsDropInAt, IsDropInAtOf, IsLinked, IsLinkedOf, IsTaken, IsTakenOver}, TypeFolderLaws.{masks_hide_types, names_alone_without_types, names_go_first, types_come_last}, TypeLaws.{folders_keep_types, no_name_has_a_types_folder, one_type, types_are_kinds, words_are_no_names}, WalkLaws.{found_iff_taken, found_is_taken, found_name, found_path, none_stands}, Walks.{borrowed, first_for, given, path, said_for, take_at, take_of, taken, taken_in, took, took_in, took_over, unmasked}}
pub use Rattle.list_laws.specs.FirstSaid.{first_same, or_assoc, or_none, said_more}
pub use Rattle.path_maps.specs.{Folders.{is_in}, Prelude.{from_T, is_equal, is_less}}
pub use Rattle.std.{proofs.{Common.{[], ap, append_assoc, arith, Bool, cond, drop, eq-eqb, false, filter, fold, get_or, inl, inr, is_ok, is_some, IsTrue, length, List, map, None, not, Option, refl, reverse, Some, subst, suc, sym, take, true, zero, ℕ, ⊎_elim, ◌∙◌}, lemmas.{Bool.{and_from, and_parts, eqb-true, true≢false}, Cmp.{tied_itself}, Iterator.Adapters.{fact_from_collect, YieldsList-from_vec}, List.{Elements.{Contains-append_cases, Contains-append_left, Contains-append_right, Contains-push}, Kept.{IsStrictlySortedBy-filter}, length-drop, map-append, reverse-append, Sums.{fold-append}, take-append-drop, take_all, take_more}, Map.{Text.{is_eq-slice_cmp}, update_all_push, Views.{btree_map_get_iff}}, Option.{same_Some}, Result.{IfOk-weaker}, Slice.Eq.{bytes_eq-Decides}}}, specs.{BTreeMap.{BTreeMap, get, IsFromIterResult, IsOrdered}, Cmp.Lexicographic.{nat_list_cmp_total}, declared.cmp.Ordering.TheVariants.{Less}, FinMap.{contains_key-keys, Entries.{below_all, find, is_sorted}}, List.{AllByRecursion, Contains, flat_map, list_any}, Map.{keys_of, update_all}, Option.{option_and_then, option_copied, option_map, option_or}, Ordering.{eq_by_cmp, is_eq, ordering_reverse}, Str.{bytes_eq}}}
unfoldable pub use Rattle.std.specs.List.Sorted.{IsStrictlySortedBy}
pub use Rattle.unit_name.specs.{declared.names.NameFault.{NameFault, TheVariants.{BadByte, EmptyPrefix, Kind as NoKind, Length, Memory}}, NameLaws.{kind_of-word, name_cmp-IsAntisymmetric, names_are_their_parts}, Names.{is_name, IsFaultOf, kind_of}}
