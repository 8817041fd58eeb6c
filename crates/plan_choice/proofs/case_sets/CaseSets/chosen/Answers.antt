use Rattle.std.proofs.Common.{◌↔◌, ◌∷◌}
use Rattle.plan_choice.proofs.Prelude.{[], AreBitsOf, case_of, count_of, IfOk, IndexedCase, IsChosen, IsDropped, IsGoing, IsMember, IsPulled, IsReached, LeadsOn, List, Listed, nat_cmp, subst, sym, ℕ}
use Rattle.plan_choice.proofs.ChoiceLemmas.{bits_are, chosen_is}
use Rattle.plan_choice.proofs.case_sets.CaseSets.chosen.Goals as goal

pub returns : goal.returns
returns c =
    let case = c.self.inside.case.now in
    let Rest : IndexedCase → ℕ → Type 0 = λ adjacency u. IsPulled (case_of adjacency) u × ¬ IsDropped nat_cmp (case_of adjacency) u in
    let rest = subst (λ (adjacency : IndexedCase). AreBitsOf (count_of adjacency) (Rest adjacency) c.deref.result.now) (sym c.self.view_is) (subst (AreBitsOf (count_of c.args.self.now) (Rest c.args.self.now)) (sym c.deref.ensures.value) c.in_ok-rest.ensures) in
    let going = subst (AreBitsOf (count_of case) (IsGoing (count_of case) (case_of case) (case.target ∷ []))) (sym c.deref-2.ensures.value) c.self.invariant.at_going in
    let P : List (List (List ℕ)) → Type 0 = λ ks. IfOk c.reached_on.result (λ bits. (v : ℕ) → IsMember bits.items v ↔ IsReached (Listed (case.target ∷ [])) (LeadsOn c.new-none.result ks c.deref.result.now c.deref-2.result.now) v) in
    let reached = subst P c.in_ok-asks.ensures.both c.reached_on.ensures.reached in
    let here : IfOk c.reached_on.result (λ bits. AreBitsOf (count_of case) (IsChosen nat_cmp (case_of case)) bits.items) =
    bits_are _ _ _ _ going.units (chosen_is case c.new-none.result c.deref.result.now c.deref-2.result.now c.new-none.ensures.none rest going) c.reached_on.result c.reached_on.ensures.units reached in
    subst (λ (adjacency : IndexedCase). IfOk c.reached_on.result (λ bits. AreBitsOf (count_of adjacency) (IsChosen nat_cmp (case_of adjacency)) bits.items)) c.self.view_is here
