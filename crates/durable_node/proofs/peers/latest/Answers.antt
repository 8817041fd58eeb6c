use Rattle.durable_node.proofs.Knowing.{latest_sorted}
use Rattle.durable_node.proofs.peers.latest.Goals as goal

pub returns : goal.returns
returns c = record {
  latest = latest_sorted (λ v. v.items) c.last_of_each.result c.args.peers.items c.sort_unstable.new.self.items c.deref.result.now c.sort_unstable.ensures.permutation c.sort_unstable.ensures.sorted c.deref.ensures.value
      c.last_of_each.ensures.last;
}
