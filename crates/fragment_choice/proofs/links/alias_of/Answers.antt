use Rattle.fragment_choice.proofs.Prelude.{rules}
use Rattle.fragment_choice.proofs.links.alias_of.Goals as goal

pub returns-in-Some : goal.returns-in-Some
returns-in-Some c = search rules
