use Rattle.std.proofs.Common.{◌<◌}
use Rattle.plan_choice.proofs.{ChoiceLemmas.{bits_are, remaining_is}, Fitting.{all_places}, Prelude.{All, AreBitsOf, case_of, count_of, IfOk, IndexedCase, IsDropped, IsListOf, IsLoser, IsPulled, List, nat_cmp, subst, sym, ℕ}}
use Rattle.plan_choice.proofs.case_sets.CaseSets.remaining.Goals as goal

pub needing-requires : goal.needing-requires
needing-requires c =
    let below = subst (λ (adjacency : IndexedCase). All (λ v. v < count_of adjacency) c.in_ok-losers.losers.items) (sym c.self.view_is) (all_places (λ v. v < count_of c.args.self.now) _ c.in_ok-losers.ensures.below) in
    let Q : List ℕ → Type 0 = λ l. All (λ v. v < count_of c.self.inside.case.now) l in
    subst Q (sym c.deref.ensures.value) below

pub returns : goal.returns
returns c =
    let case = c.self.inside.case.now in
    let pulled = subst (λ (adjacency : IndexedCase). AreBitsOf (count_of adjacency) (IsPulled (case_of adjacency)) c.args.pulled.now) (sym c.self.view_is) c.requires in
    let lost = subst (λ (adjacency : IndexedCase). IsListOf (count_of adjacency) (IsLoser nat_cmp (case_of adjacency)) c.in_ok-losers.losers.items) (sym c.self.view_is) c.in_ok-losers.ensures in
    let fell = rw c.deref.ensures.value at c.in_ok-fallen.ensures.sets in
    let left = rw c.deref-2.ensures.value at c.without.ensures.left in
    let here : IfOk c.without.result (λ bits. AreBitsOf (count_of case) (λ u. IsPulled (case_of case) u × ¬ IsDropped nat_cmp (case_of case) u) bits.items) = bits_are _ _ _ _ pulled.units
    (remaining_is case c.args.pulled.now c.in_ok-fallen.fallen.items c.in_ok-losers.losers.items pulled lost fell)
    c.without.result c.without.ensures.units left in
    subst (λ (adjacency : IndexedCase). IfOk c.without.result (λ bits. AreBitsOf (count_of adjacency) (λ u. IsPulled (case_of adjacency) u × ¬ IsDropped nat_cmp (case_of adjacency) u) bits.items)) c.self.view_is here
