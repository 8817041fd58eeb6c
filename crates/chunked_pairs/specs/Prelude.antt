-- What the definitions use of std and of the crates below.
pub use Rattle.list_laws.specs.{Orderings.{is_equal, is_less, turned}, Searches.{below_at, comparisons_ascend}}
pub use Rattle.sorted_pairs.specs.{Places.{IsAt, IsGap}, SearchLaws.{after_last, last_has, search_finds}}
pub use Rattle.std.{proofs.{Common.{[], ap, append-nil, append_assoc, arith, Bool, cond, drop, false, get_or, IsTrue, length, length-append, List, map, None, Option, refl, Some, subst, suc, sym, take, true, zero, ℕ, ◌∙◌}, lemmas.{Bool.{and_parts}, List.{length-drop, length-take, take-append-drop}}}, specs.{Cmp.{IsTotalOrder, tied_back, tied_itself}, declared.cmp.Ordering.{Ordering, TheVariants.{Equal, Greater, Less}}, FinMap.Entries.{below_all, find, is_sorted}, List.{insert}, Ordering.{eq_by_cmp, is_eq, is_lt, ordering_reverse}}}
