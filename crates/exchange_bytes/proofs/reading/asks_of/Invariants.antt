use Rattle.std.proofs.Common.{◌-◌}
use Rattle.exchange_bytes.specs.Reading.{ask_at, asks_at}
use Rattle.exchange_bytes.specs.Spelling.{ask_tells}
use Rattle.exchange_bytes.proofs.Loops.{ArePart}
use Rattle.exchange_bytes.proofs.reading.asks_of.Given as goal

abbrev pub invariant-loop : goal.invariant-loop
invariant-loop l = ArePart ask_at ask_tells (asks_at l.bytes) l.asks.items (l.count - l.counter) l.last l.rest
