use Rattle.load_places.proofs.Prelude.{bad_hosts_are_refused_first, bad_paths_are_refused_next, fleets_places_come_first, hosts_go_in_byte_order, paths_order_a_scope, places_their_texts, texts_without_hosts_are_refused_as_paths}
use Rattle.load_places.proofs.laws.place_laws.Goals as goal

pub returns : goal.returns
returns c = record { texts = places_their_texts; bad_hosts = bad_hosts_are_refused_first; bad_paths = bad_paths_are_refused_next; no_hosts = texts_without_hosts_are_refused_as_paths; fleet = fleets_places_come_first; hosts = hosts_go_in_byte_order; paths = paths_order_a_scope }
