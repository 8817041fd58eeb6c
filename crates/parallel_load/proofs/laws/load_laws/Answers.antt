use Rattle.parallel_load.proofs.Prelude.{dependencies_are_loaded, dependencies_are_mains, hosts_without_places_are_as_large, hosts_without_places_load_alike, mains_have_units, names_have_mains, one_load, same_units_make_the_load, sources_make_the_load, sources_make_the_size, units_are_their_own_mains}
use Rattle.parallel_load.proofs.laws.load_laws.Goals as goal

pub returns : goal.returns
returns c = record { one = one_load; asked = sources_make_the_load; asked_size = sources_make_the_size; mains = names_have_mains; units = mains_have_units; own = units_are_their_own_mains; dependencies = dependencies_are_mains; loaded = dependencies_are_loaded; same_units = same_units_make_the_load; loads = hosts_without_places_load_alike; size = hosts_without_places_are_as_large }
