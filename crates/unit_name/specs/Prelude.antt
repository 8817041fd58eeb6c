-- What the definitions use of std and of the crates below.
pub use Rattle.std.{proofs.{Common.{[], All, ap, append-nil, append_assoc, arith, Bool, codes, cond, drop, eqb, Err, false, get_or, inl, inr, is_none, is_ok, IsSome, IsTrue, le-leb, leb, length, length-append, List, lt-ltb, ltb, nat_le, nat_lt, None, not, Ok, Option, position, refl, Result, reverse, Some, subst, suc, sym, take, true, zero, ℕ, ◌∙◌}, lemmas.{Bool.{agree_below_at, and_from, and_parts, cases_lt, cond-false, cond-true, eqb-true, le-ltb, leb-true, ltb-false, ltb-true, not-false, not-true, or_from, or_left, or_parts, or_right, true≢false}, Cmp.{tied_itself}, List.{drop_all, drop_more, Elements.{All-head, All-tail}, Folds.{list_all-append, list_any-append}, get_or-reverse, length-reverse, reverse-append, Sums.{passes_at_first, prefix_len_stops, split_at_first, take_while-cons}, take-append-drop, take_all}, Option.{cond_some, none-some, same_Some}, Slice.Eq.{bytes_eq-Decides}}}, specs.{Bool.{Decides}, Char.{digit_char, digit_value, is_ascii_alphanumeric}, Cmp.Lexicographic.{nat_list_cmp_total, slice_cmp}, declared.cmp.Ordering.{Ordering, TheVariants.{Equal, Greater, Less}}, FinMap.{IsAntisymmetric, nat_cmp-IsAntisymmetric, slice_cmp-IsAntisymmetric}, List.{after_first, after_last, before_first, before_last, flat_map, list_all, list_any, position_or_len, prefix_len, suffix_len}, Ordering.{eq_by_cmp, is_eq, nat_cmp}, Prelude.{find, IsOk}, Str.{bytes_eq}}}
