use Rattle.std.proofs.Common.{[], arith, rules}
use Rattle.node_meetings.proofs.Noting.{all_told, one_more_told}
use Rattle.node_meetings.proofs.meeting.peers_of.Goals as goal

pub loop-peer-preserved : goal.loop-peer-preserved
loop-peer-preserved c =
    one_more_told c.args.known.now c.loop-peer.peer-index (record { mark = []; writer = 0; seen = 0 }) c.peer_of.result c.loop-peer.peers c.insert.new.self (search rules) c.peer_of.ensures.peer c.loop-peer.invariant c.in_ok-insert.ensures.inserted

pub returns : goal.returns
returns c =
    let low = c.loop-peer.auto.peer-index-end in
    let past = c.loop-peer-test.false in
    record { peers = all_told c.args.known.now c.loop-peer.peer-index c.loop-peer.peers (omega (arith, low, past)) c.loop-peer.invariant }
