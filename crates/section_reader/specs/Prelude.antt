-- What the definitions use of std and of the crates below.
pub use Rattle.list_laws.specs.Lines.{HasNoLineFeed, IsPlainLine, lines-line_feeds}
pub use Rattle.std.{proofs.{Common.{[], All, ap, append-nil, arith, Bool, codes, drop, false, filter, length, List, map, nat_lt, None, Option, refl, slice_index, Some, sym, take, true, ℕ, ⊎_elim, ◌∙◌}, lemmas.{Bool.{cond-false}, List.Elements.{recursion_from_All}}}, specs.{List.{after_first, before_first, ends_with, flat_map, list_all, position_or_len, prefix_len, slice_range, starts_with, suffix_len}, Prelude.{nat_eq}, Str.Lines.{lines}}}
