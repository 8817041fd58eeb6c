use Rattle.std.proofs.Common.{◌≡◌}
use Rattle.host_trees.proofs.Prelude.{edit_at_fleet, map, take}
use Rattle.host_trees.proofs.trees.edits_at_fleet.Given as goal

abbrev pub invariant-loop-pair : goal.invariant-loop-pair
invariant-loop-pair l = l.edits.items ≡ map edit_at_fleet (take l.pair-index l.tree)
