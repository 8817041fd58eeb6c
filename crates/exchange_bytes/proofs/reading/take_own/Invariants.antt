use Rattle.std.proofs.Common.{◌-◌}
use Rattle.exchange_bytes.specs.Pieces.{own_taken}
use Rattle.exchange_bytes.proofs.Taking.{AreOwnLeft}
use Rattle.exchange_bytes.proofs.reading.take_own.Given as goal

abbrev pub invariant-loop : goal.invariant-loop
invariant-loop l = AreOwnLeft l.scope (own_taken l.scope l.fn.store l.count l.bytes) l.grown (l.count - l.counter) l.last l.rest
