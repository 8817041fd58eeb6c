use Rattle.std.proofs.Common.{◌≡◌}
use Rattle.host_trees.proofs.Prelude.{length, map, said, take}
use Rattle.host_trees.proofs.crossings.are_same.Given as goal

abbrev pub invariant-loop-i : goal.invariant-loop-i
invariant-loop-i l = (length l.left ≡ length l.right) × (map said (take l.i l.left) ≡ map said (take l.i l.right))
