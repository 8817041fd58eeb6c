use Rattle.host_trees.proofs.Prelude.{all_paths_stand, hosts_without_places_have_the_fleets_tree, one_of_both_stands, one_tree, own_contents_go_first, own_contents_stand, visible_contents_decide, what_is_passed_over_hides_nothing, without_a_host_the_fleets}
use Rattle.host_trees.proofs.laws.tree_laws.Goals as goal

pub returns : goal.returns
returns c = record { one = one_tree; decided = visible_contents_decide; fleets = without_a_host_the_fleets; without_places = hosts_without_places_have_the_fleets_tree; paths = all_paths_stand; either = one_of_both_stands; own = own_contents_stand; passed_over = what_is_passed_over_hides_nothing; first = own_contents_go_first }
