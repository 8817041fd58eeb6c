use Rattle.exchange_session.proofs.Prelude.{join-left}
use Rattle.exchange_session.proofs.replies.take_one.Goals as goal

pub returns-clause-kept : goal.returns-clause-kept
returns-clause-kept c = rw c.in-Ok.ensures.ok (join-left c.args.node.now.store c.args.piece)
