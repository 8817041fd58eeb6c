use Rattle.index_rows.proofs.{Listing.{IsListedBelow}, Prelude.{IsMember}}
use Rattle.index_rows.proofs.bits.members_of.Given as goal

abbrev pub invariant-loop-node : goal.invariant-loop-node
invariant-loop-node l = IsListedBelow (IsMember l.bits) l.node l.nodes.items
