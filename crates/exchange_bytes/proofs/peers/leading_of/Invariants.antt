use Rattle.std.proofs.Common.{◌≡◌, ◌+◌, drop}
use Rattle.exchange_bytes.specs.Peers.{leading}
use Rattle.exchange_bytes.proofs.peers.leading_of.Given as goal

abbrev pub invariant-loop-index : goal.invariant-loop-index
invariant-loop-index l = leading l.peer l.list ≡ l.index + leading l.peer (drop l.index l.list)
