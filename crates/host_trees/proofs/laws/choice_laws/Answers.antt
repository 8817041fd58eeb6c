use Rattle.host_trees.proofs.Prelude.{trees_choose_alike, trees_have_the_same_fragments, trees_name_alike, trees_resolve_alike, trees_show_the_same_names}
use Rattle.host_trees.proofs.laws.choice_laws.Goals as goal

pub returns : goal.returns
returns c = record { choices = trees_choose_alike; resolutions = trees_resolve_alike; names = trees_name_alike; shown = trees_show_the_same_names; fragments = trees_have_the_same_fragments }
