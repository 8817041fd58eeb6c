use Rattle.fragment_choice.proofs.Prelude.{choices_decide, following_finds_the_end, fragments_are_files, fragments_are_own, fragments_have_no_folder, hosts_without_places_resolve_alike, leads_and_choice_decide, leads_decide_mains, link_targets_decide, link_targets_show, mains_are_their_own, mains_decide, no_alias_stands, one_list_of_names, own_words_decide, views_decide_link_targets}
use Rattle.fragment_choice.proofs.laws.alias_laws.Goals as goal

pub returns : goal.returns
returns c = record { ends = following_finds_the_end; own_main = mains_are_their_own; no_alias = no_alias_stands; choices = choices_decide; files = fragments_are_files; own = fragments_have_no_folder; paths = fragments_are_own; mains = leads_decide_mains; main_choices = leads_and_choice_decide; words = link_targets_decide; own_words = own_words_decide; shown = link_targets_show; sights = views_decide_link_targets; names = one_list_of_names; same_names = mains_decide; hosts = hosts_without_places_resolve_alike }
