-- What the definitions use of std and of the crates below.
pub use Rattle.join_law.specs.VersionOrderLaws.{tied_parts}
pub use Rattle.std.{proofs.{Common.{[], ap, append_assoc, arith, Bool, codes, drop, Err, false, IsTrue, length, List, nat_le, nat_lt, None, not, Ok, Option, refl, Result, slice_get, Some, subst, suc, sym, true, unwrap_or, zero, ℕ, ⊎_elim, ◌∙◌}, lemmas.{Bool.{and_from, and_parts, both_ways, cases_Bool, cond-false, cond-true, Decides.{Decides-eqb}, lt-ltb, not-true, or_cases, or_right}, List.{drop_at, length_push, Splits.{join_with_byte-slice_split, slice_split-cons_no}}, Slice.Eq.{starts_is}}}, specs.{Cmp.{IsTotalOrder, Lexicographic.{nat_list_cmp_total, slice_cmp}, nat_cmp_total, on_total, then_total}, Coded.{code_by, Coded, coded_list, coded_ℕ, coded×}, declared.cmp.Ordering.{Ordering, TheVariants.{Equal}}, FinMap.{nat_cmp-IsAntisymmetric, slice_cmp-IsAntisymmetric}, List.{join_with_byte, list_all, onto_first, slice_split, starts_with}, Option.{option_map_or}, Ordering.{nat_cmp, ordering_then}, Prelude.{nat_eq}, Str.{bytes_eq}}}
