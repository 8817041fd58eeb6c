use Rattle.std.proofs.Common.{◌-◌, Some}
use Rattle.load_places.specs.Places.{place_cmp}
use Rattle.store_bytes.specs.ListReading.{list_at, pair_above_at}
use Rattle.store_bytes.specs.Reading.{place_at, version_at}
use Rattle.exchange_bytes.proofs.Loops.{ArePart}
use Rattle.exchange_bytes.proofs.reading.version_list_of.Given as goal

abbrev pub invariant-loop : goal.invariant-loop
invariant-loop l = ArePart (pair_above_at place_cmp place_at version_at) (λ p. Some p.0) (list_at place_cmp place_at version_at l.bytes) l.versions.items (l.count - l.counter) l.last l.rest
