use Rattle.start_order.proofs.{Frees.{prefix_least}, Prelude.{arith, refl}}
use Rattle.start_order.proofs.free.prefix_of.Goals as goal

pub returns-in-Some : goal.returns-in-Some
returns-in-Some c = prefix_least c.args.nodes.now.items c.in-Some.node.now c.in-Some.ensures.lookup (let l = c.in-Some.ensures.variant.0 refl in omega (arith, l, c.args.nodes.now.ok)) c.requires
