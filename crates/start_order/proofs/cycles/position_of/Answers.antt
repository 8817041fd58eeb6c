use Rattle.start_order.proofs.Prelude.{arith, contains_from_among, get_or_default, ◌∙◌}
use Rattle.start_order.proofs.cycles.position_of.Goals as goal

pub returns : goal.returns
returns c =
    let k = contains_from_among c.args.node c.args.list.now c.requires in
    absurd (c.loop-i.invariant k.0 (omega (arith, k.1)) (get_or_default c.args.list.now k.0 0 c.args.node k.1 ∙ k.2))
