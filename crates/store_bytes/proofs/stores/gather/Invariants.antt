use Rattle.store_bytes.specs.Bytes.{entries_in}
use Rattle.store_bytes.specs.Streams.{entries_to_come, most_left}
use Rattle.store_bytes.proofs.Held.{IsPartlyRead}
use Rattle.store_bytes.proofs.stores.gather.Given as goal

abbrev pub invariant-loop-store : goal.invariant-loop-store
invariant-loop-store l = IsPartlyRead (entries_in l.kind l.bytes) (entries_to_come l.entries) l.store

abbrev pub decreases-loop-store : goal.decreases-loop-store
decreases-loop-store l = most_left l.entries
