-- What the proofs use of std, of the crates below and of the definitions.
pub use Rattle.index_rows.specs.{AdjacencyLaws.{All-neighbors, neighbors-below}, IndexingLaws.{among_mapped, ascending_named, index_of, mapped_from, members_named, one_index}, ListLaws.{IsAmong-push, IsAmong-push_cases}}
pub use Rattle.inverse_deps.specs.{AdjacencyLaws.{adjacency_named, own_rows, same_at}, AskedLaws.{asking_makes_no_edges}, Dependencies.{Follows, HasDefaults, IsByPath, IsByTarget, IsDependent, IsGiven, IsGivenBefore, IsMountFor, MayFollow, NamesUnit, NeedsMount, orders_targets, unit_among}, EdgeAdjacency.{adjacency_at, AreAdjacencyBy, AreAdjacencyByKinds, edge_map, edges_from, list_from, lists_from}, EdgeLaws.{edges_come_from_names, edges_join_units, inverses_are_one, one_list_by_kind, one_list_of_edges}, Edges.{AreEdges, AreEdgesFrom, AreEdgesOf, DependsOn, EdgeMap, IsEdge, IsUnitIn, list_at, names_in, place}, Following.{ComesBefore, defaults_in, entry_at, HasPulled, IsAfterOne, IsBeforeList, IsFollowing, IsLeading, IsMayList, IsPulled, MayBeAfter}, IndexLaws.{find_place, key_at_place, keys_length, load_indexing, place_of_found, sorted_by_keys, unit_at, unit_index}, Indices.{count_of, IsIndexOf, name_at}, Links.{AreFound, AreFoundIn, AreLinks, AreLinksOf, AreTransposedIn, IsFound, IsTransposed, links_in}, MakingLaws.{adjacency_of_successors, AreMade, made_more, made_none}, ManagerLaws.{defaults_alone_are_ordered, files_name_all, fragments_are_loaded, given_orders_stand, targets_come_after_wanted, targets_follow_one_way, units_come_after_mounts, units_require_mounts}, Mounts.{dependency, deps_by, deps_on, IsByMount, IsByMounts, mounts_in}, NamingLaws.{names_along, names_either, names_none, transposed_named}, Prelude.{After, AreAdjacencyOf, AreDependencyAdjacency, AreNamedSuccessors, AreNames, Before, BindsTo, BoundBy, ConflictedBy, Conflicts, ConsistsOf, Dependency, DependencyList, DepKind, Files, fragment_by, HaveSameAdjacency, is_loaded_by, kind, Loaded, BuiltIn, NotFound, Masked, Bad, Manager, Profile, Status, inverse, inverses_are_undone, InSlice, IsAmong, IsAmong-append_cases, IsAmong-append_left, IsAmong-append_right, kinds, Listed, LoadedUnit, LoadMap, Name, name_cmp, name_cmp-IsAntisymmetric, Named, NameLoad, neighbors, OfAlias, OfUnit, OnFailure, OnFailureOf, PartOf, PropagatesReloadTo, ReloadPropagatedFrom, RequiredBy, Requires, Requisite, RequisiteOf, SliceOf, TriggeredBy, Triggers, unit_in, unit_part, UpheldBy, Upholds, WantedBy, Wants}, Rows.{AreRowsBy, AreWithin, HasAdded}, TableLaws.{all_edges, all_kept, asking_changes_no_table, get_mapped, no_edges, stands_at, table_list}, Tables.{AreEdgeAdjacency, AreIndicesBy, AreKept, HasKind, IsEdgeTable, IsKindList}, UnitLaws.{by_files_alone, dependents_are_units, path_of, path_parts, target_of, target_parts}}
pub use Rattle.parallel_load.specs.{KeyLaws.{key_found}, Prelude.{among_from_contains, contains_from_among, in_byte_order, IsAt, name_eq-Decides, names_stay}}
pub use Rattle.setting_rules.specs.OrderLaws.{names_ascend}
pub use Rattle.sorted_pairs.specs.{PlaceLaws.{at_within, find_at, find_gap}, Places.{IsGap}}
pub use Rattle.std.{proofs.{Math.Seq.{drop-cons}, Common.{[], add-one, All, ap, append-nil, append_assoc, arith, Bool, drop, eqb, Err, false, get_or, get_or-set_other, get_or-set_same, IfOk, inl, inr, IsSome, IsTrue, length, length-set, List, map, None, not, Ok, Option, refl, Result, set, Some, subst, suc, sym, take, true, zero, ℕ, ◌∙◌}, lemmas.{Bool.{cases_eq, cases_lt, ne_eqb}, List.{Sorted.{searched}, Elements.{All-contains, All-nil, All-push, Contains-get_or}, drop_all, get_or-map, get_or_past, length-map, map-append, map-set, take_all, take_more}, Map.Keys.{below_from_sorted}, Option.{none-some}, Result.{IfOk-weaker, on_ok_weaker}}}, specs.{Cmp.Lexicographic.{nat_list_cmp_total, pointwise}, declared.{alloc.Global.{Global}, vec.Vec.{Vec}}, FinMap.Entries.{find, is_sorted}, List.Sorted.{IsBinarySearchResult}, Map.{keys_of}, Option.{option_and_then, option_map}, Result.{is_ok}, Ordering.{eq_by_cmp, nat_cmp}, Prelude.{slice_index_or}}}
unfoldable pub use Rattle.std.specs.List.Sorted.{IsStrictlySortedBy}
