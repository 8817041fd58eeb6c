use Rattle.exchange_session.proofs.Prelude.{store_below_refl}
use Rattle.exchange_session.proofs.Taking.{kept}
use Rattle.exchange_session.proofs.replies.take_all.Goals as goal

pub returns-in_err-take_one-clause-kept : goal.returns-in_err-take_one-clause-kept
returns-in_err-take_one-clause-kept c = kept c.args.node.now.store c.loop-piece.node.store c.take_one.new.node.store c.loop-piece.yielded c.loop-piece.invariant.taken c.take_one.ensures.kept

pub returns-clause-kept : goal.returns-clause-kept
returns-clause-kept c = kept c.args.node.now.store c.loop-piece.node.store c.loop-piece.node.store c.loop-piece.yielded c.loop-piece.invariant.taken (store_below_refl c.loop-piece.node.store)
