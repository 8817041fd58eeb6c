-- What the definitions use of std and of the crates below.
pub use Rattle.std.{proofs.{Common.{[], add-zero, All, ap, append_assoc, arith, Bool, cond, drop, false, filter, get_or, inl, inr, IsTrue, length, length-append, List, map, None, Option, refl, Some, subst, suc, sym, T, take, true, zero, ℕ, ◌∙◌}, lemmas.{Bool.{and_parts, cond-false, cond-true, eq-eqb, ne_eqb, true≢false}, Cmp.{tied_itself}, List.{drop_more, Elements.{All-from_get_or, All-push, All-weaker, Contains-append_cases, Contains-append_left, Contains-append_right, Contains-push, Contains-push_cases}, get_or-take, get_or_push, length-take-le, Prefix.{end_from_reads}, Splits.{length-slice_split, slice_split_at, slice_split_none}, take-append-drop, take_at, take_more}, Map.Keys.{sorted_head, sorted_tail}, Option.{none-some}}}, specs.{BTreeSet.{insert_key}, Cmp.{IsTotalOrder}, declared.cmp.Ordering.{Ordering, TheVariants.{Equal, Greater, Less}}, FinMap.{Entries.{below_all, is_sorted}}, List.{AllByRecursion, Contains, flat_map, slice_split, Sorted.{IsNonDecreasingBy, IsStrictlySortedBy}}, Option.{option_or}, Ordering.{is_eq, is_lt, match_ordering, ordering_index, ordering_reverse}, Str.Lines.{lines, lines_of_parts, strip_carriage_return}}}
