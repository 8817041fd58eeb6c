use Rattle.worked_calls.proofs.bytes.append_each_version.Given as goal

abbrev pub decreases-loop-place : goal.decreases-loop-place
decreases-loop-place l = l.reader.count
