use Rattle.std.proofs.Common.{◌++◌, ◌+◌, ◌≡◌}
use Rattle.path_maps.proofs.{Ascends.{additions_zipped}, Prelude.{additions, differing_zipped, length}}
use Rattle.std.specs.FinMap as finmap
use Rattle.path_maps.proofs.differences.find_unlike.Given as goal

abbrev pub invariant-loop-placed : goal.invariant-loop-placed
invariant-loop-placed l =
    (l.found.places.items ++ differing_zipped l.both ≡ differing_zipped l.initial.both) ×
    (l.found.added + additions_zipped l.both ≡ additions l.older (finmap.entries l.store))

abbrev pub decreases-loop-placed : goal.decreases-loop-placed
decreases-loop-placed l = length l.both
