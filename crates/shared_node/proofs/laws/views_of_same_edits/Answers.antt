use Rattle.shared_node.proofs.Prelude.{same_edits_same_store}
use Rattle.shared_node.proofs.laws.views_of_same_edits.Goals as goal

pub returns : goal.returns
returns g c = record { same = same_edits_same_store c.args.one.now.seen c.args.other.now.seen }
