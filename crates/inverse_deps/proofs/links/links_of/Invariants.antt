use Rattle.inverse_deps.proofs.Prelude.{AreFoundIn, links_in}
use Rattle.inverse_deps.proofs.links.links_of.Given as goal

abbrev pub invariant-loop-from : goal.invariant-loop-from
invariant-loop-from l = AreFoundIn l.rows l.from (links_in l.links.items)
