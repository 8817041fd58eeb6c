use Rattle.std.proofs.Common.{◌≡◌, ◌++◌, drop}
use Rattle.durable_node.specs.Peers.{last_of_each}
use Rattle.durable_node.proofs.peers.last_of_each.Given as goal

abbrev pub invariant-loop-index : goal.invariant-loop-index
invariant-loop-index l = l.last.items ++ last_of_each (drop l.index l.peers) ≡ last_of_each l.peers
