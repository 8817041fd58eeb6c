use Rattle.plan_choice.proofs.Prelude.{AreBitsOf, case_of, count_of, IsGoing, subst, sym}
use Rattle.plan_choice.proofs.{ChoiceLemmas.{bits_are}, WalkLemmas.{needing_is}}
use Rattle.plan_choice.proofs.case_sets.needing.Goals as goal

pub returns : goal.returns
returns c =
    let case = c.args.case.now in
    let going = subst (AreBitsOf (count_of case) (IsGoing (count_of case) (case_of case) c.args.units.now)) (sym c.deref-2.ensures.value) c.in_ok-going.ensures in
    bits_are _ _ _ _ going.units (needing_is case c.new-none.result c.new-none.ensures.none c.args.units.now c.requires c.deref.result.now c.deref-2.result.now going)
    c.reached_on.result c.reached_on.ensures.units c.reached_on.ensures.reached
