use Rattle.dropins.proofs.Prelude.{cuts_are_dashed_prefixes, folders_are_names, folders_join, folders_keep_types, folders_of_each, folders_of_instances, folders_of_other_names, folders_stand_once, longer_cuts_come_first, no_name_has_a_types_folder, one_folder, one_type, types_are_kinds, words_are_no_names}
use Rattle.dropins.proofs.laws.folder_laws.Goals as goal

pub returns : goal.returns
returns c = record { one = one_folder; instances = folders_of_instances; others = folders_of_other_names; each = folders_of_each; joined = folders_join; names = folders_are_names; once = folders_stand_once; cuts = cuts_are_dashed_prefixes; longer = longer_cuts_come_first; kinds = types_are_kinds; one_type = one_type; types = folders_keep_types; words = words_are_no_names; apart = no_name_has_a_types_folder }
