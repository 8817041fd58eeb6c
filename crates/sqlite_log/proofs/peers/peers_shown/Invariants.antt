use Rattle.std.proofs.Common.{◌≡◌, map, take}
use Rattle.sqlite_log.specs.Cells.{peer_shown}
use Rattle.sqlite_log.proofs.peers.peers_shown.Given as goal

abbrev pub invariant-loop-row : goal.invariant-loop-row
invariant-loop-row l = l.peers.items ≡ map peer_shown (take l.row-index l.rows)
