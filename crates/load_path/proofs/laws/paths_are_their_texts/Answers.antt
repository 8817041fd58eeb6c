use Rattle.load_path.proofs.Prelude.{are_their_texts}
use Rattle.load_path.proofs.laws.paths_are_their_texts.Goals as goal

pub returns : goal.returns
returns c = record { law = are_their_texts }
