use Rattle.index_rows.proofs.Prelude.{[], flat_map, IsSpread, successors_from, take}
use Rattle.index_rows.proofs.shortest.next_level.Given as goal

abbrev pub invariant-loop-node : goal.invariant-loop-node
invariant-loop-node l = IsSpread l.fn.seen.items l.seen.items [] l.next.items (flat_map (successors_from l.successors) (take l.node-index l.level))
