-- What the definitions use of std and of the crates below.
pub use Rattle.list_laws.specs.{Orderings.{is_less, turned}, Searches.{above_lesser, below_at, comparisons_ascend}}
pub use Rattle.std.{proofs.{Common.{[], ap, arith, cond, Err, false, get_or, IfErr, IfOk, IsTrue, length, List, None, Ok, refl, Result, set, Some, subst, suc, sym, take, zero, ℕ, ◌∙◌}, lemmas.Bool.{and_parts}}, specs.{Cmp.{IsTotalOrder}, declared.cmp.Ordering.{Ordering, TheVariants.{Equal, Greater, Less}}, FinMap.Entries.{below_all, by_order, find, is_sorted, put}, List.{AllWithin, insert, Sorted.{IsBinarySearchResult, IsSearchInRange}}, Ordering.{is_eq, is_lt}}}
