use Rattle.index_rows.proofs.Prelude.{filter, is_member, IsSpread, take}
use Rattle.index_rows.proofs.bits.spread_inside.Given as goal

abbrev pub invariant-loop-node : goal.invariant-loop-node
invariant-loop-node l = IsSpread l.fn.seen.items l.seen.items l.fn.noted.items l.noted.items (filter (is_member l.inside) (take l.node-index l.nodes))
