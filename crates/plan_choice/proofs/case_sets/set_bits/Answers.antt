use Rattle.std.proofs.Common.{◌<◌}
use Rattle.plan_choice.proofs.{ChoiceLemmas.{SetsBits-more, SetsBits-none}, Prelude.{arith, get_or, length, SetsBits, subst, take_all, take_more}}
use Rattle.plan_choice.proofs.case_sets.set_bits.Goals as goal

pub loop-node-init : goal.loop-node-init
loop-node-init c = SetsBits-none c.args.bits.now.items c.args.value

pub loop-node-preserved : goal.loop-node-preserved
loop-node-preserved c =
    let within : get_or c.args.nodes.now c.loop-node.node-index 0 < length c.loop-node.bits.items = omega (arith, c.requires c.loop-node.node-index 0 c.loop-node-test.true, c.loop-node.invariant.units) in
    SetsBits-more _ _ _ _ _ _ within (take_more c.args.nodes.now c.loop-node.node-index 0 c.loop-node-test.true) c.loop-node.invariant

pub returns : goal.returns
returns c = subst (λ l. SetsBits c.args.bits.now.items c.loop-node.bits.items l c.args.value) (take_all c.loop-node.node-index c.args.nodes.now (omega arith)) c.loop-node.invariant
