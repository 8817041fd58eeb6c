use Rattle.std.proofs.Common.{◌<◌, ◌∷◌}
use Rattle.plan_choice.proofs.Prelude.{[], AreBitsOf, case_of, count_of, IsGoing, subst, sym, ◌∙◌}
use Rattle.plan_choice.proofs.WalkLemmas.{needed_is}
use Rattle.plan_choice.proofs.case_sets.CaseSets.of.Goals as goal

pub invariant_of-result : goal.invariant_of-result
invariant_of-result c =
    let case = c.args.case.now in
    let others = rw c.deref.ensures.value at c.in_ok-idle.ensures.others in
    let units = rw c.deref.ensures.value at c.in_ok-idle.ensures.units in
    let going = subst (AreBitsOf (count_of case) (IsGoing (count_of case) (case_of case) (case.target ∷ []))) (sym c.deref-3.ensures.value) c.in_ok-going.ensures in
    record {
      at_idle = record {
        units = units ∙ case.valid_running;
        sets = λ u. (
          λ m. (let k = (others u).0 m in (subst (λ n. u < n) case.valid_running k.0, k.1)),
          λ h. (others u).1 (subst (λ n. u < n) (sym case.valid_running) h.0, h.1),
        );
      };
      at_going = c.in_ok-going.ensures;
      at_needed = needed_is case c.new-none.result c.new-none.ensures.none c.deref-2.result.now c.deref-3.result.now going c.in_ok-needed.needed.items
          (record { units = c.in_ok-needed.ensures.units ∙ going.units; sets = c.in_ok-needed.ensures.reached });
      to_conflicting = c.in_ok-conflicting.ensures;
    }
