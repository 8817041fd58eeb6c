-- What the proofs use of std, of the crates below and of the definitions.
pub use Rattle.list_laws.specs.{Insertions.{put_kept, put_sound, put_there}, Members.{among_from_contains, contains_from_among}, Orderings.{is_equal}, Searches.{comparisons_ascend}}
pub use Rattle.name_closure.specs.{Chains.{HasOver, IsClosure, IsReached}, ClosureLaws.{IsClosed, one_closure, reached_closed, reached_least}, Growth.{AreJoined, AreNew}, LimitLaws.{not_in_tail, not_over, over-closure}, ListedLaws.{Listed, named_by, names_all}, Loading.{AreApart, AreLoaded, AreLoads, AreOthers, LeadsByLoad}, LoadingLaws.{leads_by_one, loads_append, loads_none, loads_one}, Prelude.{IsAmong, IsAmong-append_cases, IsAmong-append_left, IsAmong-append_right, one_ascending_list}, StableLaws.{closure_stays}}
pub use Rattle.std.{proofs.{Common.{[], All, ap, append-nil, append_assoc, arith, Bool, cond, Err, false, filter, get_or, inl, inr, is_some, IsTrue, length, List, None, not, Option, refl, rules, Some, subst, suc, sym, take, true, zero, ℕ, ◌∙◌}, lemmas.{Bool.{and_from, cases_lt, true≢false}, Cmp.{eq_by_cmp_equiv, tied_itself}, Fn.{always_returns_same, filter_same}, Grind.{common_steps, flat_map-append}, Iterator.Adapters.{fact_from_collect, YieldsList-from_vec}, List.{Elements.{All-append, All-cons, All-get_or, All-head, All-nil, All-rest, All-tail, All-weaker}, Filters.{dedup_is}, Kept.{Contains-dedup, Contains-from_dedup, IsStrictlySortedBy-dedup}, Sorted.{Contains-permutation, IsPermutation-sym}, take_more}, Map.{Entries.{length-keys_of, lookup_from_place}, Keys.{IsDistinct-from_sorted}, Made.{IfSome-update_all, is_some-lookup, is_some-update_all}}, Option.{slice_get-get_or}, Result.{IfOk-weaker}}}, specs.{BTreeMap.{is_at, IsFromIterResult, keys}, BTreeSet.{insert_key}, Cmp.{IsEquivalence, IsTotalOrder}, declared.cmp.Ordering.{Ordering, TheVariants.{Equal, Greater, Less}}, FinMap.Entries.{below_all, is_sorted}, List.{AllByRecursion, dedup, flat_map, list_any, Sorted.{IsBinarySearchResult}}, Map.{keys_of, lookup, update_all}, Ordering.{eq_by_cmp, is_eq, is_lt, match_ordering, ordering_reverse}, Prelude.{IfSome, IsPermutation, IsSorted}}}
unfoldable pub use Rattle.std.specs.List.Sorted.{IsStrictlySortedBy}
