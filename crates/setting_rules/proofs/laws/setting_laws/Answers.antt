use Rattle.setting_rules.proofs.Prelude.{assertions_empty_all, conditions_empty_all, empty_dependencies_change_nothing, files_read_them_as_any_other, instances_are_taken, inverses_are_undone, keeps_all_values, keys_join, last_boolean_decides, last_boolean_stays, lists_join, managers_keep_paths, names_ascend, names_stay, nothing_refused_unsaid, one_key_enters, other_keys_change_nothing, other_names_stay, passed_over_changes_nothing, plain_words_stay, prefixes_are_taken, resets_forget, settings_show_values, words_set_kinds}
use Rattle.setting_rules.proofs.laws.setting_laws.Goals as goal

pub returns : goal.returns
returns c = record { kept = keeps_all_values; forgotten = resets_forget; others = other_keys_change_nothing; passed_over = passed_over_changes_nothing; dependencies = empty_dependencies_change_nothing; shown = settings_show_values; conditions = conditions_empty_all; assertions = assertions_empty_all; files = lists_join; keys = keys_join; key = one_key_enters; alone = last_boolean_stays; last = last_boolean_decides; unsaid = nothing_refused_unsaid; plain = plain_words_stay; ascend = names_ascend; stay = names_stay; instances = instances_are_taken; prefixes = prefixes_are_taken; no_templates = other_names_stay; inverses = inverses_are_undone; words = words_set_kinds; paths = managers_keep_paths; any_other = files_read_them_as_any_other }
