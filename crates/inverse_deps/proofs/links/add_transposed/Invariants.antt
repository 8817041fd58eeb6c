use Rattle.inverse_deps.proofs.Prelude.{AreTransposedIn, links_in, take}
use Rattle.inverse_deps.proofs.links.add_transposed.Given as goal

abbrev pub invariant-loop-dep : goal.invariant-loop-dep
invariant-loop-dep l = AreTransposedIn (links_in l.initial.links.items) (take l.dep-index l.deps) l.from (links_in l.links.items)
