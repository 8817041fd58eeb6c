use Rattle.start_order.proofs.{Frees.{all_left, below_least, none_left_out, popped}, Keys.{pop_least, pop_rest}, Prelude.{IsLeastIn, subst}}
use Rattle.start_order.proofs.free.drop_first.Goals as goal

pub returns-then-first-node : goal.returns-then-first-node
returns-then-first-node c = record {
  rest = popped c.args.nodes.now.keys c.pop_first.new.self.keys c.pop_first.result c.args.node (subst (IsLeastIn c.args.nodes.now.keys) c.if-first-node.true c.in-Some.ensures)
      (pop_least _ _ c.pop_first.result c.pop_first.ensures.variant c.pop_first.ensures.removal c.pop_first.ensures.all_above)
      (pop_rest _ _ c.pop_first.result c.pop_first.ensures.variant c.pop_first.ensures.removal c.pop_first.ensures.all_above c.pop_first.ensures.unchanged);
}

pub returns-else-first-node : goal.returns-else-first-node
returns-else-first-node c = record { rest = all_left c.args.nodes.now.keys c.args.node (below_least c.args.nodes.now.keys c.in-Some.first c.args.node c.in-Some.ensures c.requires.least c.if-first-node.false) }

pub returns-in_default : goal.returns-in_default
returns-in_default c = record { rest = none_left_out c.args.nodes.now.keys c.args.node c.in_default.ensures }
