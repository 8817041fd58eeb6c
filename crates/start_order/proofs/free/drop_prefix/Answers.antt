use Rattle.start_order.proofs.{Frees.{all_left, below_least, none_left_out, rest_ascends, rest_left}, Prelude.{IsLeastIn, subst}}
use Rattle.start_order.proofs.free.drop_prefix.Goals as goal

pub returns-then-prefix-node-clause-ascending : goal.returns-then-prefix-node-clause-ascending
returns-then-prefix-node-clause-ascending c = rest_ascends c.args.nodes.now.items c.pop_front.new.self.items c.pop_front.ensures.rest c.requires.ascending

pub returns-then-prefix-node-clause-rest : goal.returns-then-prefix-node-clause-rest
returns-then-prefix-node-clause-rest c =
    rest_left c.args.nodes.now.items c.pop_front.new.self.items c.args.node c.pop_front.ensures.rest c.requires.ascending (subst (IsLeastIn c.args.nodes.now.items) c.if-prefix-node.true c.in-Some.ensures)

pub returns-else-prefix-node-clause-rest : goal.returns-else-prefix-node-clause-rest
returns-else-prefix-node-clause-rest c = all_left c.args.nodes.now.items c.args.node (below_least c.args.nodes.now.items c.in-Some.prefix c.args.node c.in-Some.ensures c.requires.least c.if-prefix-node.false)

pub returns-in_default-clause-rest : goal.returns-in_default-clause-rest
returns-in_default-clause-rest c = none_left_out c.args.nodes.now.items c.args.node c.in_default.ensures
