-- What the proofs use of std, of the crates below and of the definitions.
pub use Rattle.implied_names.specs.{Implied.{as_run, by_kinds, directory_in, given_by, paths_in, runs, said_path}, ImpliedLaws.{activators_come_first, implied_are_names, implied_are_naming, nothing_by_default, perpetual_units_are_names, services_wait_for_the_system, set_services_are_triggered}, Paths.{components, counts, cuts, is_slash, is_up, joined, mounts_on, path_of, unit_at}, Roles.{is_comma, is_equals, is_open_input, is_service, options, says_failing}, Sources.{is_socket_word}}
pub use Rattle.setting_rules.specs.Rules.{Text}
pub use Rattle.std.{proofs.{Common.{Bool, Bor, List, None, Some, [], ap, append-nil, append_assoc, codes, cond, drop, false, filter, get_or, length, map, not, refl, rules, sym, take, tests, true, ℕ, ◌∙◌}, Math.Bool.{and-false}, lemmas.{Grind.{flat_map-append}, Iterator.{Consumers.{YieldsList-at, YieldsList-from_filter, map_from_collect}, Splits.{YieldsList-from_slice_split}}, List.{map-append, Elements.{filter_map-append}}}}, specs.{List.{before_first, filter_map, flat_map, list_any, starts_with}, Option.{option_copied}, Prelude.{nat_eq}, Str.{bytes_eq}}}
pub use Rattle.unit_name.specs.Names.{is_name, kind}
pub use Rattle.unit_values.specs.{Facts.{last, last_of, values_of}, Named.{named}}
