use Rattle.std.proofs.Common.{◌-◌, Some}
use Rattle.store_bytes.specs.ListReading.{key_above_at}
use Rattle.exchange_bytes.specs.Peers.{peer_cmp}
use Rattle.exchange_bytes.specs.Reading.{peer_at, peers_at}
use Rattle.exchange_bytes.proofs.Loops.{ArePart}
use Rattle.exchange_bytes.proofs.reading.peer_list_of.Given as goal

abbrev pub invariant-loop : goal.invariant-loop
invariant-loop l = ArePart (key_above_at peer_cmp peer_at) (λ p. Some p) (peers_at l.bytes) l.peers.items (l.count - l.counter) l.last l.rest
