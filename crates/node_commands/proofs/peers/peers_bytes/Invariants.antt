use Rattle.std.proofs.Common.{◌≡◌, ◌++◌, flat_map, take}
use Rattle.node_commands.specs.Texts.{here_line, peer_line}
use Rattle.node_commands.proofs.peers.peers_bytes.Given as goal

abbrev pub invariant-loop-peer : goal.invariant-loop-peer
invariant-loop-peer l = l.out.items ≡ here_line l.fn.head ++ flat_map peer_line (take l.peer-index l.peers)
