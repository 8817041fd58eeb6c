-- What the proofs use of the definitions.
pub use Rattle.tree_answers.specs.TreeLaws.{trees_answer_alike, trees_have_the_same_units}
