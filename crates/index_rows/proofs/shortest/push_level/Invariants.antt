use Rattle.std.proofs.Common.{◌++◌, ◌≡◌}
use Rattle.index_rows.proofs.Prelude.{map, take}
use Rattle.index_rows.proofs.shortest.push_level.Given as goal

abbrev pub invariant-loop-node : goal.invariant-loop-node
invariant-loop-node l = l.pairs.items ≡ l.fn.pairs.items ++ map (λ v. (l.distance, v)) (take l.node-index l.level)
