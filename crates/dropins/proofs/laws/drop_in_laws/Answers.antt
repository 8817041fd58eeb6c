use Rattle.dropins.proofs.Prelude.{borrowed_are_drop_ins, drop_ins_are_files, drop_ins_are_the_fleets, folders_decide, hosts_without_places_have_these_drop_ins, hosts_without_places_have_these_links, levels_go_first, links_are_the_fleets, masks_hide_types, names_alone_without_types, names_go_first, names_or_else_types, one_order, something_is_taken, taken_once, types_come_last}
use Rattle.dropins.proofs.laws.drop_in_laws.Goals as goal

pub returns : goal.returns
returns c = record { levels = levels_go_first; some = something_is_taken; once = taken_once; decided = folders_decide; either = names_or_else_types; first = names_go_first; last = types_come_last; hidden = masks_hide_types; alone = names_alone_without_types; same = one_order; files = drop_ins_are_files; borrowed = borrowed_are_drop_ins; drop_ins = hosts_without_places_have_these_drop_ins; links = hosts_without_places_have_these_links; fleets = drop_ins_are_the_fleets; fleets_links = links_are_the_fleets }
