use Rattle.exchange_session.proofs.replies.reply.Goals as goal

pub returns-clause-pieces : goal.returns-clause-pieces
returns-clause-pieces c = rw c.into_parts-prints.ensures.asks at c.in_ok-answer.ensures.pieces

pub returns-clause-pursued : goal.returns-clause-pursued
returns-clause-pursued c = rw c.into_parts-prints.ensures.prints at c.in_ok-answer.ensures.pursued

pub returns-clause-asked_back : goal.returns-clause-asked_back
returns-clause-asked_back c = rw c.into_parts-prints.ensures.asks at c.in_ok-answer.ensures.asked_back

pub returns-clause-agreed : goal.returns-clause-agreed
returns-clause-agreed c = rw c.into_parts-prints.ensures.prints at c.in_ok-answer.ensures.agreed

pub returns-clause-quiet : goal.returns-clause-quiet
returns-clause-quiet c = rw (c.into_parts-prints.ensures.prints, c.into_parts-prints.ensures.asks) at c.in_ok-answer.ensures.quiet

pub returns-clause-stays : goal.returns-clause-stays
returns-clause-stays c = rw (c.into_parts-prints.ensures.prints, c.into_parts-prints.ensures.asks) at c.in_ok-answer.ensures.stays
