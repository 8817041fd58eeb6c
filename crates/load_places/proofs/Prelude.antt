-- What the proofs use of std, of the crates below and of the definitions.
pub use Rattle.load_places.specs.{LevelLaws.{least_level_decides, lesser_ranks_go_first, levels_of_directories, own_places_go_first, places_looked_at_have_levels, undefined_everywhere}, PlaceLaws.{fleets_places_come_first, hosts_go_in_byte_order, paths_order_a_scope}, TextLaws.{bad_hosts_are_refused_first, bad_paths_are_refused_next, places_their_texts, texts_without_hosts_are_refused_as_paths}}
