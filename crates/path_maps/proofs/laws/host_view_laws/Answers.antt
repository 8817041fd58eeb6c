use Rattle.path_maps.proofs.Prelude.{hosts_without_places_have_the_fleets_view, other_hosts_are_not_in_view, places_are_in_views, places_decide_views, what_is_in_view_has_a_place, what_is_viewed_there_is_its_own}
use Rattle.path_maps.proofs.laws.host_view_laws.Goals as goal

pub returns : goal.returns
returns c = record { places = places_are_in_views; own = what_is_viewed_there_is_its_own; view = what_is_in_view_has_a_place; others = other_hosts_are_not_in_view; decide = places_decide_views; without = hosts_without_places_have_the_fleets_view }
