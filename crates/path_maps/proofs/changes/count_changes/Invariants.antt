use Rattle.std.proofs.Common.{◌+◌, ◌≡◌}
use Rattle.path_maps.proofs.{Ascends.{additions_zipped, ascends_zipped}, Prelude.{additions, ascends, length}}
use Rattle.std.specs.FinMap as finmap
use Rattle.path_maps.proofs.changes.count_changes.Given as goal

abbrev pub invariant-loop-placed : goal.invariant-loop-placed
invariant-loop-placed l =
    (l.changes.changed + ascends_zipped l.both ≡ ascends l.store (finmap.entries l.other)) ×
    (l.changes.added + additions_zipped l.both ≡ additions l.store (finmap.entries l.other))

abbrev pub decreases-loop-placed : goal.decreases-loop-placed
decreases-loop-placed l = length l.both
