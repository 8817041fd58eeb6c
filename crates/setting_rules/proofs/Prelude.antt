-- What the proofs use of std, of the crates below and of the definitions.
pub use Rattle.setting_rules.specs.{declared.{keys.SettingKey.{SettingKey}, kinds.DepKind.{DepKind}, notes.{SettingNote.{SettingNote}, SettingNoteKind.TheVariants.{BadBoolean, BadEscape}}, rules.KeyRule.{KeyRule, TheVariants.{Assertion, Condition, Dependency, Ignored, Kept, Plain, Switch}}}, Dependencies.{faults_by, key_for, list_for, named_by, named_by_text, names_by, notes_for, result_err}, Effects.{changed_by, effect, resets_family, start_of}, EnteredLaws.{any_others, keys_join, one_key_enters, others}, FamilyLaws.{assertions_empty_all, conditions_empty_all}, JoinLaws.{lists_join}, KeyLaws.{same_key_is, same_key_itself, same_key_turned}, Kinds.{naming_kinds}, Maps.{changed, place_of, same_key, SettingMap, texts_or_none, values_at, with_key}, OrderLaws.{names_ascend, names_stay}, Prelude.{Assignment, expand, has_bytes, is_percent, is_white, Name, name_cmp, plain_texts_stay, Profile}, ProfileLaws.{files_read_them_as_any_other, managers_keep_paths}, ResetLaws.{empty_dependencies_change_nothing, filter-drop-none, filter-following_last-none, filter-none, following_last-none, following_last-push, given-append, is_never_emptied, keeps_all_values, none_resets, other_keys_change_nothing, passed_over_changes_nothing, resets_forget, settings_show_values}, Rows.{escape_notes, escape_notes_at, is_dependency, row, rows_at, rows_of}, Rules.{boolean, is_empty, rule_of, same_rule, Text}, Settings.{boolean_notes, counted, counts, counts_by, emptied_by, firsts, following_last, given, gives, is_bad, is_bad_by, key_of, keys_of, last_alone, note_on, resets, rule_at}, SortedLaws.{few_in_order, sorted_is}, Switches.{last_value, says_yes}, SwitchLaws.{last_boolean_decides, last_boolean_stays, nothing_refused_unsaid}, TemplateLaws.{instances_are_taken, other_names_stay, prefixes_are_taken}, WordLaws.{inverses_are_undone, plain_words_stay, words_set_kinds}, Words.{words_of}}
pub use Rattle.std.{proofs.{Common.{[], add-one, ap, append-nil, append_assoc, arith, Bool, Bor, cond, drop, false, filter, find, get_or, inl, inr, is_none, is_some, length, length-append, List, map, nat_cmp, nat_le, nat_lt, ne_eqb, None, not, Option, position, refl, rules, slice_get, Some, suc, sym, take, tests, true, unwrap_or, zero, ℕ, ◌∙◌}, lemmas.{Bool.{and_from, Decides.{nat_tests}, true≢false}, Grind.{flat_map-append}, Iterator.{Consumers.{map_from_collect, YieldsList-at, YieldsList-from_filter}, Splits.{YieldsList-from_slice_split}}, List.{drop-append-le, Elements.{filter-append, filter_map-append}, Filters.{dedup_is}, length-take-le, map-append, take_all, take_more}, Map.Text.{is_eq-slice_cmp}, Option.{none-some}}, Math.{Bool.{and-false}, Seq.{drop-append_seam}}}, specs.{Cmp.Lexicographic.{slice_cmp}, List.{filter_map, flat_map, list_any, position_or_len}, Map.{values_of}, Ordering.{eq_by_cmp, is_eq}, Result.{result_ok}, Str.{bytes_eq}}}
