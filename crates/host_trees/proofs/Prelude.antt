-- What the proofs use of std, of the crates below and of the definitions.
pub use Rattle.dropins.specs.{BorrowedLaws.{made_of, made_there}, declared.precedence.Search.TheVariants.{DropIns, Links}, Taken.{AreDropInsOf, AreLinksOf, candidate_at}}
pub use Rattle.edit_sums.specs.{ContentLaws.{content_cmp-IsAntisymmetric, content_cmp_total}, Contents.{content_cmp}, Entries.{IsBelow}, Prelude.{place_cmp}, SumLaws.{sum_of-IsSum}, Sums.{edit_of, entry_of, sum_of}}
pub use Rattle.fragment_choice.specs.Choices.{is_slash}
pub use Rattle.host_trees.specs.{ChoiceLaws.{trees_choose_alike, trees_have_the_same_fragments, trees_name_alike, trees_resolve_alike, trees_show_the_same_names}, CrossingLaws.{hosts_without_places_have_none_crossed, one_store_tells_all, without_a_host_none_is_crossed}, Entries.{said, SameDropIns, SameLinks}, Merged.{content_of, Contents, first_merged, Merged, merged, of_both, only_fleets, only_own, Seen, seen_in, seen_of, tree_of}, OwnFolders.{nothing_of_its_own, OwnsNothing, OwnsNothingAt, OwnsNothingIn}, PartLaws.{files_count, links_count, links_to_themselves_are_passed_over, own_names_decide, passed_over_at_paths}, Prelude.{[], ap, as_found, At, Bool, bytes_eq-Decides, Candidate, cond, Content, Edit, entries_of, Entry, entry_name, EntryMap, eq_by_cmp, false, File, filter_map, Fleet, Folder, folders, Gone, Host, host_view_of, HostViewMap, inl, inr, IsAmong, IsDropInOf, IsLinkOf, IsStrictlySortedBy, Link, List, map, match_ordering, Name, name_cmp, None, of_fleet, one_ascending, Option, option_map, path_at, path_cmp, path_cmp-IsAntisymmetric, path_cmp_total, PathParts, paths_order_a_scope, PlaceParts, refl, Requires, Scope, scope_cmp, scope_cmp-IsAntisymmetric, Search, shown, slice_get, Some, subst, sym, true, view, viewed_at, Viewer, visible_at, Wants, within, ℕ, ◌∙◌}, Reads.{edit_at_fleet, HasDropInOf, HasLinkOf, IsCrossed, ReadsAlike, ReadsAlikeOf, ReadsItsTree, ShowsTree}, TreeLaws.{all_paths_stand, hosts_without_places_have_the_fleets_tree, one_of_both_stands, one_tree, own_contents_go_first, own_contents_stand, visible_contents_decide, what_is_passed_over_hides_nothing, without_a_host_the_fleets}, Trees.{fleets_at, IsTree, own_at, standing, stands_at}}
pub use Rattle.join_law.specs.Prelude.{from_T, is_equal, is_less, to_T}
pub use Rattle.list_laws.specs.Members.{among_from_contains, contains_from_among}
pub use Rattle.path_maps.specs.{Folders.{is_in}, ScopeLaws.{get-scope_of}, SpreadLaws.{find_below}}
pub use Rattle.std.{proofs.{Common.{arith, eq-eqb, filter, get_or, IsTrue, length, MatchBool, not, suc, take, zero}, lemmas.{Bool.{and_from, and_parts}, Cmp.{tied_itself}, List.{get_or-map, map-append, Sums.{suffix_len_is}, take_more}, Option.{same_Some, slice_get_read}, Result.{IfOk-weaker}}}, specs.{Cmp.{IsTotalOrder, Lexicographic.{nat_list_cmp_total}}, declared.cmp.Ordering.{Ordering, TheVariants.{Equal, Greater, Less}}, FinMap.Entries.{below_all, find, is_sorted}, List.{AllByRecursion, cons_option, Contains, suffix_len}, Option.{option_and_then, option_copied}, Ordering.{is_eq, is_lt, ordering_reverse}}}
pub use Rattle.unit_name.specs.NameLaws.{name_cmp-IsAntisymmetric}
unfoldable pub use Rattle.path_maps.specs.Scopes.{scope_of}
unfoldable pub use Rattle.std.specs.List.Sorted.{IsStrictlySortedBy}
