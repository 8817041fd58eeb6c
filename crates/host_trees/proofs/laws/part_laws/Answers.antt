use Rattle.host_trees.proofs.Prelude.{files_count, links_count, links_to_themselves_are_passed_over, own_names_decide, passed_over_at_paths}
use Rattle.host_trees.proofs.laws.part_laws.Goals as goal

pub returns : goal.returns
returns c = record { names = own_names_decide; themselves = links_to_themselves_are_passed_over; files = files_count; links = links_count; passed_over = passed_over_at_paths }
