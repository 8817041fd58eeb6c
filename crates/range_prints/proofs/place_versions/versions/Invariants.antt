use Rattle.std.proofs.Common.{length, map, ◌++◌, ◌≡◌}
use Rattle.std.specs.FinMap as finmap
use Rattle.range_prints.proofs.Stores.{version_at}
use Rattle.range_prints.proofs.place_versions.versions.Given as goal

abbrev pub invariant-loop-placed : goal.invariant-loop-placed
invariant-loop-placed l = l.versions.items ++ map version_at l.entries ≡ map version_at (finmap.entries l.store)

abbrev pub decreases-loop-placed : goal.decreases-loop-placed
decreases-loop-placed l = length l.entries
