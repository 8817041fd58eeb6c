use Rattle.script_answers.proofs.Prelude.{crowds_are_rendered_once, files_are_rendered_once, hosts_without_places_are_rendered_the_fleets_files, other_hosts_change_no_files, questions_are_rendered_once, texts_are_rendered_once}
use Rattle.script_answers.proofs.laws.rendering_laws.Goals as goal

pub returns : goal.returns
returns c = record { files = files_are_rendered_once; texts = texts_are_rendered_once; questions = questions_are_rendered_once; crowds = crowds_are_rendered_once; fleets = hosts_without_places_are_rendered_the_fleets_files; others = other_hosts_change_no_files }
