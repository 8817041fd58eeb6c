use Rattle.fragment_choice.proofs.Prelude.{aliases_are_alike, aliases_have_links, choices_are_the_fleets, first_files_are_fragments, good_links_make_aliases, hosts_without_places_choose_alike, instances_keep_their_part, kinds_make_bad, least_level_chooses, mains_are_alike, masks_hide, no_link_is_a_loop, other_hosts_dont_count, own_paths_decide, shapes_make_bad, targets_make_bad, templates_come_last, undefined_is_not_found}
use Rattle.fragment_choice.proofs.laws.choice_laws.Goals as goal

pub returns : goal.returns
returns c = record { least = least_level_chooses; first = first_files_are_fragments; templates = templates_come_last; masks = masks_hide; paths = own_paths_decide; undefined = undefined_is_not_found; links = aliases_have_links; instances = instances_keep_their_part; alike = aliases_are_alike; mains_alike = mains_are_alike; kinds = kinds_make_bad; shapes = shapes_make_bad; targets = targets_make_bad; loops = no_link_is_a_loop; aliases = good_links_make_aliases; hosts = hosts_without_places_choose_alike; fleets = choices_are_the_fleets; others = other_hosts_dont_count }
