use Rattle.plan_choice.proofs.Prelude.{AreBitsOf, case_of, count_of, IfOk, IndexedCase, IsAbsent, IsAmong, IsExtra, IsListOf, IsMember, length, List, MissesRequisite, nat_cmp, subst, successors_from, sym, ℕ}
use Rattle.plan_choice.proofs.{ChoiceLemmas.{missing_is}, Fitting.{ok_along}}
use Rattle.plan_choice.proofs.case_sets.CaseSets.missing.Goals as goal

pub returns-in_ok-resting-in-Manager : goal.returns-in_ok-resting-in-Manager
returns-in_ok-resting-in-Manager c =
    let case = c.self.inside.case.now in
    let resting = c.in_ok-resting-in-Manager.resting.items in
    let absent = c.in_ok-absent-in-Manager.absent.items in
    let extra = subst (λ (adjacency : IndexedCase). AreBitsOf (count_of adjacency) (IsExtra (case_of adjacency)) c.args.extra.now) (sym c.self.view_is) c.requires.extra in
    let at_absent = subst (λ (adjacency : IndexedCase). AreBitsOf (count_of adjacency) (IsAbsent (count_of adjacency) (case_of adjacency)) absent) (sym c.self.view_is) c.in_ok-absent-in-Manager.ensures in
    let left = rw c.deref.ensures.value at c.in_ok-resting-in-Manager.ensures.left in
    let L : ℕ → List ℕ → Type 0 = λ n l. IsListOf n (λ u. IsMember resting u × ((v : ℕ) × (IsAmong v (successors_from case.requisites u) × IsMember absent v))) l in
    let list = rw (c.deref-in-Manager.ensures.value, c.deref-in-Manager-2.ensures.value) at c.leading_into.ensures in
    let here = ok_along (λ units. L (length absent) units.items) (λ units. IsListOf (count_of case) (MissesRequisite nat_cmp (case_of case)) units.items)
    (λ units l. missing_is case c.args.extra.now resting absent units.items c.in-Manager.is extra left at_absent (subst (λ n. L n units.items) at_absent.units l)) c.leading_into.result list in
    subst (λ (adjacency : IndexedCase). IfOk c.leading_into.result (λ units. IsListOf (count_of adjacency) (MissesRequisite nat_cmp (case_of adjacency)) units.items)) c.self.view_is here
