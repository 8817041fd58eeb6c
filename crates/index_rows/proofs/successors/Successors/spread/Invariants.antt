use Rattle.index_rows.proofs.Prelude.{IsSpread, successors_inside, take}
use Rattle.index_rows.proofs.successors.Successors.spread.Given as goal

abbrev pub invariant-loop-adjacency : goal.invariant-loop-adjacency
invariant-loop-adjacency l = IsSpread l.fn.seen.items l.seen.items l.fn.noted.items l.noted.items (successors_inside l.inside (take l.adjacency-index l.self) l.node)
