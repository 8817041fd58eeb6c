use Rattle.host_trees.proofs.Prelude.{hosts_without_places_have_none_crossed, one_store_tells_all, without_a_host_none_is_crossed}
use Rattle.host_trees.proofs.laws.crossing_laws.Goals as goal

pub returns : goal.returns
returns c = record { fleets = without_a_host_none_is_crossed; without_places = hosts_without_places_have_none_crossed; one = one_store_tells_all }
