-- What the proofs use of std, of the crates below and of the definitions.
pub use Rattle.dropins.specs.{CutLaws.{cuts_are_dashed_prefixes, IsDashedPrefix}, FolderJoinLaws.{among_firsts}, FolderLaws.{ends_somewhere, folders_are_names}, FolderLists.{cuts, folders_of, with_prefix}, Prelude.{Automount, Device, instance, is_empty, IsAmong-append_cases, IsAmong-append_left, IsAmong-append_right, Kind, made_of_name, Mount, name_with, none_there, Path, path_cmp, path_cmp-IsAntisymmetric, path_cmp_total, prefix, prefixes_may_be_cut, Scope, Service, Shape, Slice, Socket, suffix, suffix_is_word, Swap, template_at, template_name, template_of, Timer, word}, TypeLaws.{folders_keep_types}}
pub use Rattle.fragment_choice.specs.Indexes.{HaveLinks}
pub use Rattle.index_rows.specs.Prelude.{Listed}
pub use Rattle.name_closure.specs.{ClosureLaws.{reached_least}, declared.loads.ClosureFault.TheVariants.{Memory, TooMany}, LimitLaws.{not_over}, Loading.{LeadsByLoad}, SourceLaws.{more_reached}}
pub use Rattle.parallel_load.specs.{AffectedUnits.{AreAffected, AreAffectedBy, AreNoted, AreOwnersNoted, GrowsWithin, IsInFootprint, IsNoted}, Alone.{IsAliasOf, IsLoadAlone, named_in, names_in_lists}, AskedLaws.{sources_make_the_load, sources_make_the_size}, declared.{faults.LoadFault.{LoadFault}, loaded.{CachedRows.{CachedRows}, Dependency.{Dependency}, NameLoad.{NameLoad, TheVariants.{Alias as OfAlias, Unit as OfUnit}}, Patches.{Patches}}, mains.Normalized.{Normalized}}, FoundNames.{IsFound}, HostLaws.{hosts_without_places_are_as_large, hosts_without_places_load_alike, same_units_make_the_load}, Indexes.{index_at, IsIndex, key_at}, Indexing.{AreIndexed, HasMainUnit, IsMainIndex, main_name}, Indices.{AreDependenciesOf, AreDependencyAdjacency, HasIndex, IsDependencyOf, IsIndexOfMain, IsUnitAmong, name_of}, KeyLaws.{key_at_place, key_found, keys_ascend, keys_length, sorted_by_keys, sorted_from_keys}, LoadHeld.{alias_in}, LoadLaws.{one_load}, LoadRows.{AreLoadsAgain, AreReadOrLeft, AreRows, IsKept, IsLoadAgain, IsNormalizedRow, IsOwnUnit, IsReadAgain, IsReadOrLeft, row_alone}, Loads.{AreNamedAlone, by_mains, IsLoad, IsNamedAlone, IsNameLoad, list_by_mains, lists_in, load_at, LoadMap, main_in, main_part, unit_part, with_lists}, Normalized.{AreNormalized, dependency_of, IsNormalizedLoad, IsWhole, list_indices, list_normalized, load_indices, load_normalized, name_indices, name_lists, name_loads, normalized_name, other_index, other_indices, other_mains, unit_normalized, unless_unit}, OwnLinkTargets.{AreOwnLinkTargets, with_own_link_targets, words_in}, OwnWordLaws.{words_again, words_are}, PairLaws.{among_find, find_among}, Patched.{AreUnitsOf, patched_load, put_load, with_loads}, Prelude.{among_filter, among_from_contains, among_map, AreLoaded, AreNames, ClosureFault, contains_from_among, DependencyList, DepKind, Entry, EntryMap, Files, filter_among, footprint, HasOver, HasOwnLinkTargets, host_view_of, HostViewMap, in_byte_order, Instance, is_dot, is_in, is_less, is_name, is_null, is_same, IsAmong, IsAt, IsClosure, IsLevel, IsListed, IsName, IsShown, IsUnit, leads_decide_mains, level_for, level_is, levels, link_targets, link_targets_decide, lists_have_what_is_named, LoadedUnit, main, mains_are_their_own, Manager, map_among, Name, name_cmp, name_eq-Decides, NamedWords, names_stay, own_path, PathParts, perpetual_units, PlaceParts, Plain, Profile, reached_closed, SameLeads, SameWords, shape, shown, StoresAgreeIn, Target, targets_in, Template, turned, UnitShape, view, viewed_at, Viewer, viewer_of, visible_at, words_of, WorkersFault}, Refreshes.{AreStill, IsBefore, IsHeldOn, IsMissed, IsStill}, Refusals.{OnTooMany, refusal_by_workers, refusal_of}, SameLaws.{first_true, same_by, second_true}, SearchPrefixes.{AreWithin, begins_so, BeginsWith, EndsInDash, EndsWith, HasNoStop, is_stop, IsNonDecreasing, IsOfNoType, IsOfType, IsSearchPrefixOf}, SecondaryNames.{AddsNames, AreSecondaryNames, HasSecondaryNames, HasThese}, Sources.{AreSourcesBy, is_template, shown_name, shown_names, whole_name}, StableLoadLaws.{KeepsItsNames, same_names_keep_the_universe, universe_stays, words_keep_visible_names}, Touched.{AddsParts, HasParts, KeepsLinkTargets}, TouchedLaws.{touched_words_decide}, Universe.{AreUniverse, asked_by, IsSource, IsTooLarge, IsVisibleName, LeadsTo}, UniverseLaws.{all_among, dependencies_are_loaded, dependencies_are_mains, mains_have_units, names_have_mains, sorted_from, units_are_their_own_mains}}
pub use Rattle.path_maps.specs.HostLaws.{one_viewer}
pub use Rattle.setting_rules.specs.SortedLaws.{sorted_is}
pub use Rattle.sorted_pairs.specs.{PlaceLaws.{at_within, find_at, find_gap}, Places.{IsGap}}
pub use Rattle.std.{proofs.{Common.{[], All, ap, append-nil, append_assoc, arith, Bool, Bor, codes, cond, drop, eq-eqb, Err, false, filter, get_or, IfErr, IfOk, inl, inr, is_some, IsSome, IsTrue, length, List, map, MatchOption, None, not, Ok, Option, position, refl, Result, rules, set, Some, subst, suc, sym, T, take, true, unwrap_or, zero, ℕ, ⊎_elim, ◌∙◌}, lemmas.{Bool.{and_from, and_parts, cases_Bool, cases_eq, cases_lt, cond-false, cond-true, Decides.{Decides-eqb}, eqb-true, ltb-false, ltb-true, or_cases, or_from, or_left, or_parts, or_right, true≢false}, Cmp.{tied_itself}, List.{append_cancel_right, Elements.{All-append, All-cons, All-head, All-nil, All-tail, All-weaker, filter_map-append}, Filters.{dedup_is}, length-map, map-append, Sorted.{Contains-permutation, IsPartitionPoint-from_clause, IsPermutation-sym, searched}, Sums.{passes_at_first, split_at_first}, take_all, take_more}, Map.Keys.{below_from_sorted}, Option.{none-some, same_Some}, Result.{IfOk-weaker}, Slice.Eq.{ends_is, slice_eq-Decides, starts_is, strip_suffix_is}}, Math.Seq.{drop-cons}}, specs.{Bool.{beq}, Cmp.{Lexicographic.{nat_list_cmp_total, pointwise}, nat_cmp_total}, declared.{alloc.Global.{Global}, cmp.Ordering.{Ordering, TheVariants.{Equal, Greater, Less}}, vec.IntoIter.{IntoIter}}, FinMap.{Entries.{find}, is_sorted, nat_cmp-IsAntisymmetric, slice_cmp-IsAntisymmetric}, Global.{Vec}, Iterator.{Yields}, List.{cons_option, Contains, dedup, filter_map, flat_map, list_any, position_or_len, Sorted.{IsPartitionedBy, IsPartitionPoint, IsStrictlySortedBy}}, Map.{keys_of}, Option.{option_and_then, option_copied, option_map}, Ordering.{eq_by_cmp, is_lt, nat_cmp, ordering_then}, Prelude.{IfSome, IsPermutation, IsSorted}, Result.{IsErrAnd}, Str.{bytes_eq}, Vec.Iter.{into_iter_items, into_iter_steps}}}
pub use Rattle.unit_loads.specs.{Elsewhere.{unit_folders}, FootprintLaws.{store_footprints_decide}, Footprints.StartsIn.{alone, within}, MemberLaws.{among_filter_map, among_flat_map, filter_map_among, flat_map_among}, Prelude.{dirs_with, ending, folders, listed, mains_decide, name_dirs, names_ascend, one_list_of_names, Requires, Resolution, resolution, type_dirs, types_of, Wants, with_template}}
pub use Rattle.unit_name.specs.NameLaws.{names_are_their_parts}
pub use Rattle.worker_rounds.specs.{declared.chunks.Chunk.{Chunk}, Joined.{IsJoined}}
