use Rattle.load_places.proofs.Prelude.{least_level_decides, lesser_ranks_go_first, levels_of_directories, own_places_go_first, places_looked_at_have_levels, undefined_everywhere}
use Rattle.load_places.proofs.laws.level_laws.Goals as goal

pub returns : goal.returns
returns g c = record { least = least_level_decides _; undefined = undefined_everywhere _; looked_at = places_looked_at_have_levels; within = levels_of_directories; ranks = lesser_ranks_go_first; own = own_places_go_first }
