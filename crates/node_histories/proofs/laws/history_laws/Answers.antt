use Rattle.node_histories.proofs.Prelude.{legal_above, legal_apart, worlds_hold}
use Rattle.node_histories.proofs.laws.history_laws.Goals as goal

pub returns : goal.returns
returns c = record { above = legal_above; apart = legal_apart; stands = worlds_hold }
