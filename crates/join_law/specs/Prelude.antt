-- What the definitions use of std and of the crates below.
pub use Rattle.list_laws.specs.{Orderings.{is_equal, is_less}, Truths.{from_T, to_T}}
pub use Rattle.sorted_pairs.specs.{PlaceLaws.{find_at, find_before, find_gap, insert_is_put, set_is_put}, Places.{IsAt, IsGap}}
pub use Rattle.std.{proofs.{Common.{[], ap, arith, Bool, cond, drop, eq-eqb, eqb-true, Err, false, get_or, IfErr, IfOk, inl, inr, IsTrue, length, List, None, not, Ok, OnErr, OnOk, Option, refl, Result, set, Some, subst, suc, sym, take, true, zero, ℕ, ◌∙◌}, lemmas.Bool.{and_parts}}, specs.{Bool.{OnFalse, OnTrue}, Cmp.{alike_right, eq_by_cmp_equiv, IsTotalOrder, nat_cmp_total, on_total, then_total, tied_back, tied_itself, upto}, declared.cmp.Ordering.{Ordering, TheVariants.{Equal, Greater, Less}}, FinMap.{Entries.{below_all, by_order, find, find-put, find-where_key, find_tied, is_sorted-put, where_key}, is_sorted, nat_cmp-IsAntisymmetric, put}, List.{insert}, Ordering.{eq_by_cmp, is_eq, is_gt, nat_cmp, ordering_reverse, ordering_then}, Prelude.{IsErr}}}
