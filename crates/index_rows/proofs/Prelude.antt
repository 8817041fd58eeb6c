-- What the proofs use of std, of the crates below and of the definitions.
pub use Rattle.index_rows.specs.{Adjacency.{AreAdjacencyOf, IsMember, neighbors, neighbors as neighbors_of}, AdjacencyLaws.{All-neighbors, neighbors-below}, Compressed.{AreEnds, cut, start_at}, BitSetLaws.{IsMember-none, IsMember-set, IsMember-set_other, IsMember-set_same, IsMember-within, non_members_read, unset, unset-set}, IndexingLaws.{among_mapped, mapped_from}, Least.{IsLeast}, ListLaws.{below_cmp, cmp_below, empty_list, IsAmong-push, IsAmong-push_cases}, Prelude.{among_from_contains, contains_from_among, IsAmong, IsAmong-append_cases, IsAmong-append_left, IsAmong-append_right, IsChain, IsClosure, IsReached, Listed}, Spreads.{IsLeastOrNone, IsSpread, lesser_of}, StepLaws.{inside_all, inside_is, IsMember-all, more_kinds, one_kind, successors-start}, Successors.{AreSuccessorsOf, is_member, LeadsInside, LeadsOn, successors_from, successors_inside}}
pub use Rattle.name_closure.specs.{Chains.{distance_cmp, IsDistance, IsDistances}, ClosureLaws.{reached_closed, reached_least}, DistanceLaws.{one_distance}, ListedLaws.{Named, named_by, names_all}, SourceLaws.{same_reached}}
pub use Rattle.std.{proofs.{Math.Seq.{drop-append_seam}, Common.{[], All, ap, append-nil, append_assoc, arith, Bool, Bor, cond, drop, eqb, Err, false, filter, get_or, IfOk, inl, inr, length, length-append, length-drop, length-set, List, map, MatchOption, min, None, Ok, Option, refl, replicate, Result, set, Some, subst, suc, sym, take, true, vec_len, zero, ℕ, ◌∙◌}, lemmas.{Bool.{cases_eq, cases_lt, eq-eqb, ne_eqb}, Cmp.{tied_itself}, List.{Concat.{flat_map-append}, Elements.{Contains-get_or, filter-append}, Filters.{dedup_is}, get_or_default, Kept.{Contains-dedup_nat, Contains-from_dedup}, drop-append-le, length-replicate, Sorted.{Contains-permutation, IsPermutation-sym}, take-append-le, take_all, take_more}, Map.Keys.{IsStrictlyIncreasing-dedup, sorted_from_strictly_increasing}}}, specs.{Cmp.{nat_cmp_total}, declared.{alloc.Global.{Global}, cmp.Ordering.{Ordering, TheVariants.{Less}}, vec.Vec.{Vec}}, List.{AllByRecursion, Contains, dedup, flat_map, slice_range}, Ordering.{nat_cmp, ordering_then}}}
unfoldable pub use Rattle.std.specs.List.Sorted.{IsStrictlySortedBy}
