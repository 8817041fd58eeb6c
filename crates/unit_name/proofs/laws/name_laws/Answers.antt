use Rattle.unit_name.proofs.Prelude.{escapes_are_instances, escapes_are_spellings, escapes_are_undone, escapes_differ, instances_have_the_template, last_percent_stays, names_are_made, names_are_their_parts, pairs_are_replaced, parts_make_names, parts_of_names_fit, plain_starts_stay, plain_texts_stay, prefixes_may_be_cut, templates_keep_parts}
use Rattle.unit_name.proofs.laws.name_laws.Goals as goal

pub returns : goal.returns
returns c = record { made = names_are_made; names = parts_make_names; fit = parts_of_names_fit; parts = names_are_their_parts; cut = prefixes_may_be_cut; templates = templates_keep_parts; instances = instances_have_the_template; undone = escapes_are_undone; differ = escapes_differ; spellings = escapes_are_spellings; escaped = escapes_are_instances; texts = plain_texts_stay; starts = plain_starts_stay; pairs = pairs_are_replaced; last = last_percent_stays }
