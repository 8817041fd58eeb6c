-- What the definitions use of std and of the crates below.
pub use Rattle.list_laws.specs.Lines.{HasNoLineFeed, IsPlainLine, lines-last, lines-line_feeds, lines-returns}
pub use Rattle.std.{proofs.{Common.{[], All, ap, append-nil, append_assoc, arith, Bool, codes, drop, false, filter, length, length-append, List, nat_le, nat_lt, None, not, Option, refl, replicate, rules, Some, subst, suc, sym, true, zero, ℕ, ⊎_elim, ◌∙◌}, lemmas.{Bool.{and_from, cases_Bool, cond-false, cond-true, eqb-false, eqb-true, le-leb, lt-ltb, ne_eqb}, Fmt.{decimal_nonempty, digits_decimal, digits_value-decimal}, List.{Elements.{All-head, All-tail, All-weaker}, length-replicate, Splits.{slice_split_at, slice_split_none}}, Str.Parse.{IsDigitsTest, IsNumeralModel, numerals_by_value}}}, specs.{Char.{digit_value, is_ascii_alphanumeric, is_ascii_digit}, Fmt.{decimal}, List.{AllByRecursion, flat_map, list_all, position_or_len, prefix_len, slice_split, starts_with}, Prelude.{nat_eq}, Str.{Lines.{lines}, Parse.{digits_value}}}}
