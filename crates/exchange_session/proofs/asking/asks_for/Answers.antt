use Rattle.exchange_session.proofs.Telling.{asked_in_parts, own_asks, parts_asked}
use Rattle.exchange_session.proofs.asking.asks_for.Goals as goal

pub returns-clause-own : goal.returns-clause-own
returns-clause-own c = rw c.in_ok-asks_of.ensures.asks (own_asks c.args.own.now c.in_ok-ranges.ranges.items)

pub returns-clause-covered : goal.returns-clause-covered
returns-clause-covered c = rw c.in_ok-asks_of.ensures.asks (parts_asked c.args.own.now c.args.range c.in_ok-ranges.ranges.items c.in_ok-ranges.ensures.parts)

pub returns-clause-stays : goal.returns-clause-stays
returns-clause-stays c = rw c.in_ok-asks_of.ensures.asks (asked_in_parts c.args.own.now c.args.range c.in_ok-ranges.ranges.items c.in_ok-ranges.ensures.parts)
