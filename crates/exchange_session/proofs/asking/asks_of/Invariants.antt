use Rattle.std.proofs.Common.{map, ◌≡◌}
use Rattle.exchange_session.specs.Answered.{own_ask}
use Rattle.exchange_session.proofs.asking.asks_of.Given as goal

abbrev pub invariant-loop-range : goal.invariant-loop-range
invariant-loop-range l = l.asks.items ≡ map (own_ask l.own) l.yielded
