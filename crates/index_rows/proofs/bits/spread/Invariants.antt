use Rattle.index_rows.proofs.Prelude.{IsSpread, take}
use Rattle.index_rows.proofs.bits.spread.Given as goal

abbrev pub invariant-loop-node : goal.invariant-loop-node
invariant-loop-node l = IsSpread l.fn.seen.items l.seen.items l.fn.noted.items l.noted.items (take l.node-index l.nodes)
