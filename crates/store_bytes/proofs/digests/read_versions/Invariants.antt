use Rattle.store_bytes.specs.Bytes.{versions_in}
use Rattle.store_bytes.specs.Streams.{versions_to_come}
use Rattle.store_bytes.proofs.Held.{IsPartOf}
use Rattle.store_bytes.proofs.digests.read_versions.Given as goal

abbrev pub invariant-loop-versions : goal.invariant-loop-versions
invariant-loop-versions l = IsPartOf (versions_in l.bytes) l.versions.items (versions_to_come l.reader)

abbrev pub decreases-loop-versions : goal.decreases-loop-versions
decreases-loop-versions l = l.reader.count
