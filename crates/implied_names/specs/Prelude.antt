-- What the definitions use of std and of the crates below.
pub use Rattle.list_laws.specs.Members.{IsAmong, IsAmong-append_cases, IsAmong-append_left, IsAmong-append_right}
pub use Rattle.setting_rules.specs.{Dependencies.{in_byte_order}, Kinds.{naming_kinds}, Rules.{Text}, Words.{argument, for_unit, named_at}, declared.kinds.DepKind.{DepKind, TheVariants.{After, Before, BindsTo, Conflicts, InSlice, Requires, TriggeredBy, Triggers, Wants}}}
pub use Rattle.std.{proofs.{Common.{Bool, List, None, Option, Some, [], ap, append-nil, codes, cond, drop, false, filter, inl, inr, length, map, not, refl, subst, sym, true, unwrap_or, ℕ, ◌∙◌}, lemmas.Option.{same_Some}}, specs.{List.{AllByRecursion, before_first, before_last, cons_option, ends_with, filter_map, flat_map, list_any, slice_split, starts_with}, Option.{option_and_then, option_map}, Prelude.{nat_eq}, Str.{bytes_eq}}}
pub use Rattle.unit_name.specs.{Escapes.{escape, unescape}, Names.{IsName, Name, is_empty, is_name, kind, prefix, shape, stem, word}, declared.{kinds.Kind.{Kind, TheVariants.{Automount, Mount, Path, Service, Slice, Socket, Swap, Target, Timer}}, names.Shape.{Shape, TheVariants.{Instance, Plain, Template}}}}
