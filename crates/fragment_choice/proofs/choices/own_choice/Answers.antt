use Rattle.fragment_choice.proofs.Prelude.{arith, passed_over, said_there, says, sym, ◌∙◌}
use Rattle.fragment_choice.proofs.choices.own_choice.Goals as goal

pub returns-in-Some : goal.returns-in-Some
returns-in-Some c = record {
  choice = said_there (says c.args.view.now c.args.name.now c.args.own.now) c.loop-level.level c.in-Some.said _ (omega arith) (sym c.in_ok-said.ensures.said ∙ c.in-Some.is) c.loop-level.invariant.said;
  well_formed = c.in_ok-said.ensures.well_formed;
}

pub loop-level-preserved : goal.loop-level-preserved
loop-level-preserved c = record {
  said = passed_over (says c.args.view.now c.args.name.now c.args.own.now) c.loop-level.level _ _ (omega arith) (omega arith) (sym c.in_ok-said.ensures.said ∙ c.in_default.is) c.loop-level.invariant.said;
  well_formed = λ _. c.in_ok-said.ensures.well_formed;
}
