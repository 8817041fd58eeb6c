use Rattle.unit_graph.proofs.Prelude.{known_names, members_are_units}
use Rattle.unit_graph.proofs.laws.graph_laws.Goals as goal

pub returns : goal.returns
returns c = record { known = known_names; members = members_are_units }
