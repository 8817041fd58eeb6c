use Rattle.chunked_pairs.specs.Cursors.{IsAfter}
use Rattle.chunked_pairs.proofs.cursors.pass_near.Given as goal

abbrev pub invariant-loop : goal.invariant-loop
invariant-loop g l = IsAfter g.K.Ord.cmp l.key l.pairs l.left
