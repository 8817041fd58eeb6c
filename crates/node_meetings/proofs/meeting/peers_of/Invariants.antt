use Rattle.std.proofs.Common.{take}
use Rattle.node_meetings.proofs.Noting.{AreToldOf}
use Rattle.node_meetings.proofs.meeting.peers_of.Given as goal

abbrev pub invariant-loop-peer : goal.invariant-loop-peer
invariant-loop-peer l = AreToldOf l.peers (take l.peer-index l.known)
