-- What the proofs use of std, of the crates below and of the definitions.
pub use Rattle.edit_sums.specs.{CounterLaws.{high_of-join, high_of-sum_of}, declared.{contents.Content.TheVariants.{File, Gone, Link}, entries.Edit.{Edit}}, EntryLaws.{below_refl, entry_cmp_total, larger-None, larger-right, larger_cases, larger_comm}, GreatestLaws.{get-with_edit, same_place, tied}, Prelude.{place_cmp_total, Version}, SumLaws.{join-least, join-left, join-nothing, join-right, store_below_antisym, store_below_refl, store_below_trans, sum_of-edits_of, sum_of-push, with_edit-join, with_edit-of_join}, Sums.{changed_places, edit_of, entry_of, greatest_counter, is_other, with_edit}}
pub use Rattle.join_law.specs.{LevelLaws.{is_none_or-within}, MapLaws.{entry_held}, MapOneLaws.{maps_one}, Maps.{is_none_or, is_some_and, IsHeld, IsSinglePair, OptionBelow}, Order.{IsLeast, IsPartialJoin}, VersionedLaws.{both_up, never_least, not_least}, VersionOrder.{has_other}}
pub use Rattle.path_maps.specs.{Changes.{additions, ascends, is_ascending, news_zipped}, Cursors.{folders_read, held_at_path, in_hand, IsHeldAt, IsReadable, names_read, ranks_read, scope_read, scopes_read}, DifferenceLaws.{same_contents, same_contents-itself, same_contents-true}, FlatLaws.{flat_holds_nothing, holds_shows}, FolderLaws.{folder-listed, some_keys}, Folders.{is_in, is_within, names_in, path_at}, HostLaws.{hosts_without_places_have_the_fleets_view, other_hosts_are_not_in_view, places_are_in_views, places_decide_views, what_is_in_view_has_a_place, what_is_viewed_there_is_its_own}, HostViewLaws.{folder_viewed, get-view, ranks_after}, HostViews.{at_level, Own}, Kept.{AreWellFormed, HasWellFormedPaths, IsCounted, IsKept}, PathMapLaws.{entries-flat, folders_chain, folders_itself, folders_one, found_well_formed, get-flat, listed_sorted, names_chain, of_folder}, PathMaps.{AreFolders, AreNames, AreRanks, at_name, bytes_cmp, flat, FolderMap, FoldersBelow, in_folder, in_rank, listed, look_up, NameMap, NamesBelow, RankMap, RanksBelow}, PlaceMapLaws.{all_sorted, entries-held, get-held, held-below, held-between, held-join, held-rest, scope_well_formed}, PlaceMaps.{all_held, all_listed, AreScopes, in_scope, look_up_place, placed, ranks_of, ScopeMap, ScopesBelow}, Prelude.{AllHeld, At, at_fleet, Content, content_cmp, content_cmp-IsAntisymmetric, content_cmp_total, Entry, entry_cmp, EntryMap, FlatEdit, from_T, get-join, get-sum_of, high_of, Host, is_less, IsAmong, IsBelow, IsBetween, IsJoin, IsMap, IsPath, IsStoreBelow, IsUpTo, join, larger, map_chain, Never, or_empty, path_cmp, path_cmp-IsAntisymmetric, path_cmp_total, PathParts, place_cmp, place_cmp-IsAntisymmetric, PlaceParts, same_store, Scope, scope_cmp, scope_cmp-IsAntisymmetric, scope_cmp_total, shown, sum_of, to_T, Versioned, visible_at, written, written_at}, ScopeLaws.{get-scope_of, places_of_folder}, Scopes.{PathMap, scope_of, within}, Sights.{holding}, Spread.{AllKeys, spread}, SpreadLaws.{find_below}, Together.{Contents, differ, differing, differing_zipped, first_zipped, of_both, only_new, only_old, Shown, shown_zipped, together}, Zipped.{Compared, zipped}}
pub use Rattle.std.{proofs.{Common.{[], ap, arith, Bool, Bor, cond, Err, false, filter, inl, inr, is_some, IsSome, IsTrue, length, length-append, List, map, None, not, Ok, OnErr, Option, refl, Result, Some, subst, sym, take, true, unwrap_or, ℕ, ◌∙◌}, lemmas.{Bool.{and_parts, eqb-true, OnTrue_from}, List.{Concat.{flat_map-append}, length-map, map-append, Sums.{count_by-le-length, sum_by-cons}, take_more}, Result.{IfOk-weaker}}}, specs.{Cmp.{IsTotalOrder, Lexicographic.{nat_list_cmp_total}, nat_cmp_total, tied_itself}, declared.cmp.Ordering.{Ordering, TheVariants.{Equal, Greater, Less}}, FinMap.{Entries.{below_all, by_order, find, is_sorted, put}, nat_cmp-IsAntisymmetric}, Int.{from_bool}, List.{AllByRecursion, flat_map}, Option.{option_and_then, option_copied, option_map}, Ordering.{eq_by_cmp, is_eq, is_gt, is_lt, match_ordering, nat_cmp, ordering_reverse}, Prelude.{count_by, IsOk, max}}}
unfoldable pub use Rattle.std.specs.List.Sorted.{IsStrictlySortedBy}
