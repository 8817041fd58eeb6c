use Rattle.tree_answers.proofs.Prelude.{trees_answer_alike, trees_have_the_same_units}
use Rattle.tree_answers.proofs.laws.tree_answer_laws.Goals as goal

pub returns : goal.returns
returns c = record { units = trees_have_the_same_units; answers = trees_answer_alike }
