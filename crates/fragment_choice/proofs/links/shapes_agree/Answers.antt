use Rattle.fragment_choice.proofs.Prelude.{rules}
use Rattle.fragment_choice.proofs.links.shapes_agree.Goals as goal

pub returns-in-Instance-Instance : goal.returns-in-Instance-Instance
returns-in-Instance-Instance c = search rules
