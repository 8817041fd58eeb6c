use Rattle.std.proofs.Common.{◌++◌, ℕ, List, ap, ◌∙◌}
use Rattle.exchange_bytes.proofs.Whole.{peers_fit, peers_text}
use Rattle.exchange_bytes.proofs.writing.put_peers.Goals as goal

pub returns-clause-written : goal.returns-clause-written
returns-clause-written c = c.in_ok-put_peer_list.ensures.written ∙ ap (λ (l : List ℕ). c.args.out.now.items ++ l) (peers_text c.args.all.now c.as_slice.result.now c.as_slice.ensures.list)

pub returns-clause-fits : goal.returns-clause-fits
returns-clause-fits c = peers_fit c.args.all.now c.as_slice.result.now c.as_slice.ensures.list c.in_ok-put_peer_list.ensures.few c.in_ok-put_peer_list.ensures.fits c.as_slice.ensures.ascending
