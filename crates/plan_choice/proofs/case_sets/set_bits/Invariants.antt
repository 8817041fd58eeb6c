use Rattle.plan_choice.proofs.Prelude.{SetsBits, take}
use Rattle.plan_choice.proofs.case_sets.set_bits.Given as goal

abbrev pub invariant-loop-node : goal.invariant-loop-node
invariant-loop-node l = SetsBits l.fn.bits.items l.bits.items (take l.node-index l.nodes) l.value
