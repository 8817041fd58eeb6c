use Rattle.std.proofs.Common.{List, subst, sym, ◌∙◌}
use Rattle.edit_log.specs.declared.logs.LogPeer.{LogPeer}
use Rattle.durable_node.specs.Peers.{AreLatest}
use Rattle.node_files.proofs.compaction.close_both.Goals as goal

pub returns : goal.returns
returns g c = record {
  alike = λ old_clean fresh_clean.
      let closed = c.in_ok-old.ensures.clean old_clean in
      let was = c.requires.sum (c.in_ok-peers.ensures.honest closed) in
      let now = rw (← c.in_ok-peers.ensures.replica, ← c.in_ok-peers.ensures.held closed) at was in
      let logged = c.in_ok-fresh.ensures.clean fresh_clean in
      record {
        head = _;
        rows = _;
        entries = _;
        known = _;
        carried = _;
        latest = c.in_ok-peers.peers.items;
        holds = c.in_ok-old.ensures.alone old_clean;
        takes_over = rw c.in_ok-log.ensures.head at (c.in_ok-fresh.ensures.alone fresh_clean);
        same = c.in_ok-log.ensures.sum logged ∙ now;
        once = rw (← now) (c.in_ok-log.ensures.once logged);
        seen = subst (λ (ps : List LogPeer). AreLatest ps c.in_ok-peers.peers.items) (sym (c.in_ok-peers.ensures.known closed)) (c.in_ok-peers.ensures.latest closed);
        peers = rw c.deref.ensures.value at (c.in_ok-log.ensures.peers logged);
      };
}
