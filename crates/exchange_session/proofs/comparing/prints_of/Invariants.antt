use Rattle.std.proofs.Common.{map, ◌≡◌}
use Rattle.exchange_session.specs.Told.{own_print}
use Rattle.exchange_session.proofs.comparing.prints_of.Given as goal

abbrev pub invariant-loop-range : goal.invariant-loop-range
invariant-loop-range l = l.prints.items ≡ map (own_print l.seed l.own) l.yielded
