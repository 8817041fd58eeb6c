use Rattle.plan_choice.proofs.Prelude.{ap, arith, case_of, count_of, Global, IsSound, Vec, ℕ, ◌∙◌}
use Rattle.plan_choice.proofs.{case_sets.CaseSets.faults.Goals.{else-not-is_sound, then-not-is_sound+in_ok-push}, Fitting.{untrue}, WeakDependencyLemmas.{listed_all, listed_more, listed_still}}
use Rattle.plan_choice.proofs.case_sets.CaseSets.faults.Goals as goal

pub loop-unit-preserved : goal.loop-unit-preserved
loop-unit-preserved c =
    elim c.if-not-is_sound.branch [
      | then-not-is_sound+in_ok-push w ↦
          listed_more (λ v. ¬ IsSound (case_of c.args.self.now) v) _ _ _ c.loop-unit.invariant (λ s. untrue _ w.if-not-is_sound.true (c.is_sound.ensures.1 s)) (ap (λ (v : Vec ℕ Global). v.items) w.units-is ∙ w.in_ok-push.ensures.items)
      | else-not-is_sound w ↦
          listed_still (λ v. ¬ IsSound (case_of c.args.self.now) v) _ _ _ c.loop-unit.invariant (λ out. out (c.is_sound.ensures.0 w.if-not-is_sound.false)) (ap (λ (v : Vec ℕ Global). v.items) w.units-is)
    ]

pub returns : goal.returns
returns c = listed_all (λ v. ¬ IsSound (case_of c.args.self.now) v) _ c.loop-unit.unit (count_of c.args.self.now) (omega (arith, ap count_of c.self.view_is)) c.loop-unit.invariant
