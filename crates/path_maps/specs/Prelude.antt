-- What the definitions use of std and of the crates below.
pub use Rattle.edit_sums.specs.{ContentLaws.{content_cmp-IsAntisymmetric, content_cmp_total}, Contents.{content_cmp}, declared.{contents.Content.{Content}, entries.FlatEdit.{FlatEdit}}, Entries.{Entry, entry_cmp, IsBelow, larger}, EntryCodes.{coded_entry}, Flat.{at_fleet}, GreatestLaws.{get-join, get-sum_of}, Prelude.{Fleet, IsAmong, place_cmp, place_cmp-IsAntisymmetric, PlaceParts}, SumLaws.{same_store}, Sums.{EntryMap, greatest_at, high_of, IsStoreBelow, join, shown, sum_of, visible_at}}
pub use Rattle.join_law.specs.{declared.versions.Versioned.{TheVariants.{At, Never}, Versioned}, LeafLaws.{leaf_below, leaf_between, leaf_bounds, leaf_join}, LevelLaws.{level_below, level_between, level_bounds, level_join}, MapLaws.{map_chain, map_itself}, Maps.{AllHeld, IsMap, map_union, MapBelow, or_empty}, Order.{IsBetween, IsJoin}, Prelude.{from_T, is_equal, is_less, to_T}, MapOneLaws.{maps_one}, UnionLaws.{union_joins, union_keeps}, VersionedLaws.{both_up, max_joins, up_to_chain, up_to_itself}, VersionOrder.{IsUpTo, versioned_max, written, written_at}}
pub use Rattle.load_places.specs.{declared.{places.Scope.{Scope, TheVariants.{Host}}, viewers.Viewer.{Viewer}}, Levels.{level_for, of_fleet, of_host}, PlaceLaws.{scope_cmp-IsAntisymmetric, scope_cmp_total}, Places.{scope_bytes, scope_cmp}, Prelude.{coded_path, IsPath, path_cmp, path_cmp-IsAntisymmetric, path_cmp_total, PathParts, Profile}}
pub use Rattle.std.{proofs.{Common.{[], ap, append-nil, arith, Bool, cond, eq-eqb, eqb-true, false, filter, inl, inr, is_some, IsSome, IsTrue, List, map, None, not, Option, refl, Some, subst, sym, true, ℕ, ◌∙◌}, lemmas.{Bool.{and_from, and_parts, Decides.{nat_tests}}, List.Elements.{filter-append}, Map.Text.{is_eq-slice_cmp}, Option.{same_Some}, Slice.Eq.{bytes_eq-Decides}}}, specs.{Cmp.{eq_by_cmp_equiv, IsTotalOrder, Lexicographic.{nat_list_cmp_total, slice_cmp}, nat_cmp_total, tied_itself}, Coded.{code_by, Coded, coded_list, coded_option, coded_ℕ, coded×}, declared.cmp.Ordering.{Ordering, TheVariants.{Equal, Greater, Less}}, FinMap.{Entries.{below_all, find, find-where_key, is_sorted, is_sorted-where_key, same_entries}, FinMap, nat_cmp-IsAntisymmetric, slice_cmp-IsAntisymmetric}, List.{AllByRecursion, flat_map}, Option.{option_and_then, option_eq, option_map}, Ordering.{eq_by_cmp, is_eq, is_lt, match_ordering, nat_cmp, ordering_then}, Prelude.{count_by}, Str.{bytes_eq}}}
