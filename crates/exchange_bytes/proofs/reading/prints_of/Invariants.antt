use Rattle.std.proofs.Common.{◌-◌}
use Rattle.exchange_bytes.specs.Reading.{print_at, prints_at}
use Rattle.exchange_bytes.specs.Spelling.{print_tells}
use Rattle.exchange_bytes.proofs.Loops.{ArePart}
use Rattle.exchange_bytes.proofs.reading.prints_of.Given as goal

abbrev pub invariant-loop : goal.invariant-loop
invariant-loop l = ArePart print_at print_tells (prints_at l.bytes) l.prints.items (l.count - l.counter) l.last l.rest
