use Rattle.std.proofs.Common.{◌-◌}
use Rattle.exchange_bytes.specs.Pieces.{scopes_taken}
use Rattle.exchange_bytes.proofs.Taking.{AreScopesLeft}
use Rattle.exchange_bytes.proofs.reading.take_scopes.Given as goal

abbrev pub invariant-loop : goal.invariant-loop
invariant-loop l = AreScopesLeft (scopes_taken l.bytes) l.store (l.count - l.counter) l.last l.rest
