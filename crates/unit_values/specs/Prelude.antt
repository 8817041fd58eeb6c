-- What the definitions use of std and of the crates below.
pub use Rattle.setting_rules.specs.{Rules.{Text, boolean}, Words.{for_unit, words_of}, declared.rows.Row.{Row}}
pub use Rattle.std.{proofs.{Common.{Bool, Bor, List, None, Option, Some, [], ap, append-nil, arith, codes, cond, false, filter, get_or, length, length-append, map, not, refl, sym, take, true, unwrap_or, ℕ, ◌∙◌}, lemmas.List.{map-append, take_more, Elements.{filter-append, filter_map-append}}}, specs.{Coded.{Coded, code_by, coded_list, coded_ℕ, coded×}, List.{cons_option, filter_map, flat_map, list_any, slice_split}, Option.{option_and_then, option_or}, Prelude.{slice_get}, Str.{bytes_eq}}}
pub use Rattle.unit_name.specs.{Names.{Name, is_empty, is_name, kind, shape, stem, word}, declared.{kinds.Kind.{Kind, TheVariants.{Automount, Device, Mount, Path, Scope, Service, Slice, Socket, Swap, Target, Timer}}, names.Shape.{Shape, TheVariants.{Instance, Plain, Template}}}}
