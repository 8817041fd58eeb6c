use Rattle.store_bytes.specs.Streams.{most_left}
use Rattle.worked_calls.proofs.bytes.append_each_entry.Given as goal

abbrev pub decreases-loop-place : goal.decreases-loop-place
decreases-loop-place l = most_left l.reader
