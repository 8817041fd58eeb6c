-- What the proofs use of std, of the crates below and of the definitions.
pub use Rattle.setting_rules.specs.Words.{words_of}
pub use Rattle.std.{proofs.{Common.{List, ap, arith, drop, false, filter, get_or, length, map, not, refl, rules, sym, take, tests, true, ℕ, ◌∙◌}, lemmas.{Bool.{eq-eqb}, Iterator.{Consumers.{map_from_collect}, Splits.{YieldsList-from_slice_split}}, List.{map-append, Sums.{suffix_len_is}}}}, specs.{List.{filter_map, flat_map, list_any, suffix_len}, Option.{option_copied, option_or}, Str.{bytes_eq}}}
pub use Rattle.unit_name.specs.Names.{is_empty}
pub use Rattle.unit_values.specs.{BuiltIn.{is_dash}, Facts.{is_one_of, last_boolean, last_of, values_in}, Named.{first, names_unit, other_named}}
