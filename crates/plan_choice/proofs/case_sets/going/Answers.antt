use Rattle.plan_choice.proofs.WalkLemmas.{going_is}
use Rattle.plan_choice.proofs.case_sets.going.Goals as goal

pub returns : goal.returns
returns c = going_is c.args.case.now c.args.units.now c.requires c.in_ok-bits.bits.items c.set_bits.new.bits.items c.in_ok-bits.ensures c.set_bits.ensures
