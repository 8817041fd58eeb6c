use Rattle.std.proofs.Common.{◌≡◌, ◌++◌, length}
use Rattle.std.specs.FinMap as finmap
use Rattle.store_bytes.proofs.stores.entries_of.Given as goal

abbrev pub invariant-loop-placed : goal.invariant-loop-placed
invariant-loop-placed l = l.list.items ++ l.entries ≡ finmap.entries l.store

abbrev pub decreases-loop-placed : goal.decreases-loop-placed
decreases-loop-placed l = length l.entries
