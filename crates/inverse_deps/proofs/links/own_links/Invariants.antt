use Rattle.std.proofs.Common.{◌≡◌}
use Rattle.inverse_deps.proofs.Prelude.{links_in, take}
use Rattle.inverse_deps.proofs.links.own_links.Given as goal

abbrev pub invariant-loop-index : goal.invariant-loop-index
invariant-loop-index l = links_in l.links.items ≡ take l.index l.rows
