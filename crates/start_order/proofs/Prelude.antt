-- What the proofs use of std, of the crates below and of the definitions.
pub use Rattle.index_rows.specs.{Adjacency.{neighbors as neighbors_of}, AdjacencyLaws.{All-neighbors, count-push, neighbors-past, times-in, times-push_other, times-push_same, times_cases, times_room}, BitSetLaws.{IsMember-none, IsMember-set, IsMember-set_other, IsMember-set_same, IsMember-within, member_or_not, member_read, non_members_read, unset, unset-set}, ListLaws.{All-among, below_cmp, cmp_below, IsAmong-push, IsAmong-push_cases}, Prelude.{contains_from_among, IsAmong, IsAmong-append_cases, IsAmong-append_left, IsAmong-append_right, IsReached, Listed}, Spreads.{lesser_of}}
pub use Rattle.list_laws.specs.Insertions.{put_kept, put_sound, put_there}
pub use Rattle.name_closure.specs.ClosureLaws.{reached_closed}
pub use Rattle.start_order.specs.{Counts.{IsLeastIn, IsLowered, waiting, waiting as waiting_of, waits}, CycleLaws.{cycle_along, cycle_stuck, one_cycle}, OrderLaws.{can_start_along, least_along, one_start_list, stuck_chosen, stuck_out}, Precedes.{Precedes}, Prelude.{among_mapped, IsLeast, IsMember, mapped_from, neighbors, times}, StartOrder.{CanStart, IsBlockedAlong, IsBlocker, IsCycle, IsStartList, IsStuck}, Walks.{AreDistinct, IsWalk, LeadsBack, LeadsTo}}
pub use Rattle.std.{proofs.{Common.{[], All, ap, append-nil, append_assoc, arith, Bool, cond, drop, eqb, false, get_or, get_or-set_other, get_or-set_same, inl, inr, IsSome, length, length-set, List, map, MatchOption, min, None, not, Option, refl, replicate, reverse, set, slice_get, Some, subst, suc, sym, take, true, zero, ℕ, ◌∙◌}, lemmas.{Bool.{cases_eq, cases_lt, eq-eqb, ne_eqb}, List.{drop_more, get_or_default, get_or_past, length-replicate, reverse-append, take-append-drop, take_more}}}, specs.{BTreeMap.Range.{IsLeBy, IsLtBy}, BTreeSet.{insert_key}, Cmp.{nat_cmp_is}, declared.{alloc.Global.{Global}, cmp.Ordering.{Ordering, TheVariants.{Greater, Less}}, vec.Vec.{Vec}}, FinMap.{nat_cmp-IsAntisymmetric}, List.{AllByRecursion}, Option.{IfNone}, Ordering.{is_gt, nat_cmp}, Prelude.{IfSome}}}
unfoldable pub use Rattle.std.specs.List.Sorted.{IsStrictlySortedBy}
