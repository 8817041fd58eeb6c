use Rattle.std.proofs.Common.{◌∷◌}
use Rattle.plan_choice.proofs.Prelude.{[], AreBitsOf, case_of, count_of, IfOk, IndexedCase, IsGoing, IsGood, IsPulled, subst, sym}
use Rattle.plan_choice.proofs.ChoiceLemmas.{bits_are, pulled_is}
use Rattle.plan_choice.proofs.case_sets.CaseSets.pulled.Goals as goal

pub returns : goal.returns
returns c =
    let case = c.self.inside.case.now in
    let good = subst (λ (adjacency : IndexedCase). AreBitsOf (count_of adjacency) (IsGood (case_of adjacency)) c.deref.result.now) (sym c.self.view_is) (subst (AreBitsOf (count_of c.args.self.now) (IsGood (case_of c.args.self.now))) (sym c.deref.ensures.value) c.in_ok-good.ensures) in
    let going = subst (AreBitsOf (count_of case) (IsGoing (count_of case) (case_of case) (case.target ∷ []))) (sym c.deref-2.ensures.value) c.self.invariant.at_going in
    let here : IfOk c.reached_on.result (λ bits. AreBitsOf (count_of case) (IsPulled (case_of case)) bits.items) =
    bits_are _ _ _ _ going.units (pulled_is case c.deref.result.now c.deref-2.result.now good going) c.reached_on.result c.reached_on.ensures.units c.reached_on.ensures.reached in
    subst (λ (adjacency : IndexedCase). IfOk c.reached_on.result (λ bits. AreBitsOf (count_of adjacency) (IsPulled (case_of adjacency)) bits.items)) c.self.view_is here
