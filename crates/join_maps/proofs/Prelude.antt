-- What the proofs use of std, of the crates below and of the definitions.
pub use Rattle.join_law.specs.{MapLaws.{entry_held, entry_not_least, map_chain, map_itself}, MapOneLaws.{least_exactly_empty}, Maps.{AllHeld, is_none_or, is_some_and, IsHeld, IsMap, IsSinglePair, MapBelow, OptionBelow}, Order.{IsBetween, IsJoin, IsLeast, IsPartialJoin}}
pub use Rattle.join_maps.specs.{Held.{AreMapped}, Outcomes.{AreCopiesJoined, ArePairsJoined, IsLastJoined, IsLastStopped, IsRoomFor}}
pub use Rattle.list_laws.specs.{Orderings.{is_equal, is_less}, Truths.{from_T, to_T}}
pub use Rattle.sorted_pairs.specs.{PlaceLaws.{below_append, below_further, find_at, find_gap}, Places.{AreBelow, IsAt, IsGap}, Prelude.{below_at, turned}}
pub use Rattle.std.{proofs.{Common.{[], ap, append-nil, append_assoc, arith, Bool, cond, drop, eq-eqb, eqb-true, false, get_or, inl, inr, IsSome, IsTrue, length, length-append, List, map, None, Option, refl, Result, set, Some, subst, suc, sym, take, true, vec_len, zero, ℕ, ◌∙◌}, lemmas.{Bool.{and_parts}, List.{length-drop, length-take, take-append-drop, take_more}}}, specs.{Bool.{OnFalse, OnTrue}, Cmp.{IsTotalOrder, tied_itself}, declared.cmp.Ordering.{Ordering, TheVariants.{Equal, Greater, Less}}, FinMap.{Entries.{below_all, by_order, find, find-append, find_tied, is_sorted-put}, is_sorted, put}, List.{insert}, Option.{option_to_list}, Ordering.{eq_by_cmp, is_eq, is_lt, ordering_reverse}, Prelude.{IfSome, IsErr}, Vec.{vec_capacity}, VecDeque.{deque_len}}}
