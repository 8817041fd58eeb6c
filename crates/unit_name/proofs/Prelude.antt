-- What the proofs use of std, of the crates below and of the definitions.
pub use Rattle.std.{proofs.{Common.{[], ap, append-nil, append_assoc, arith, Bool, cond, eq-eqb, eqb-true, false, get_or, is_some, leb, length, length-append, List, ltb, MatchOption, None, not, Option, position, refl, rules, Some, subst, sym, take, true, unwrap_or, ℕ, ◌∙◌}, lemmas.{Bool.{cond-false, le-leb, leb-false, leb-true, lt-leb, ltb-false, ne_eqb}, Grind.{common_steps}, List.{nil_from_length, Sums.{prefix_len-le-length, suffix_len_is}}, Option.{none-some, same_Some}}}, specs.{List.{flat_map, position_or_len, suffix_len}, Option.{option_map}}}
pub use Rattle.unit_name.specs.{declared.names.Shape.{Shape, TheVariants.{Instance, Plain, Template}}, EscapeLaws.{escapes_are_instances, escapes_are_spellings, escapes_are_undone, escapes_differ, unescape-byte, unescape-nil}, Escapes.{escaped_byte, put_first, unescape}, Forms.{instance_at, instance_name, is_instance, template_at, template_name, template_of, with_instance}, NameLaws.{instance_has_parts, instances_have_the_template, made_of_name, name_short, names_are_made, names_are_their_parts, parts_make_names, parts_of_names_fit, prefixes_may_be_cut, template_parts, templates_keep_parts}, Names.{is_at, IsName, kind, Name, prefix, shape, suffix}, SpecifierLaws.{expand-byte, expand-last, expand-nil, last_percent_stays, pairs_are_replaced, plain_starts_stay, plain_texts_stay}, Specifiers.{expand, put_before, specifier}}
