use Rattle.std.proofs.Common.{◌<◌}
use Rattle.plan_choice.proofs.Prelude.{All, AreBitsOf, case_of, count_of, IndexedCase, IsGood, IsListOf, IsSound, List, subst, sym, ℕ, ◌∙◌}
use Rattle.plan_choice.proofs.{Fitting.{all_places}, WeakDependencyLemmas.{good_is}}
use Rattle.plan_choice.proofs.case_sets.CaseSets.good_weak_dependencies.Goals as goal

pub needing-requires : goal.needing-requires
needing-requires c =
    let below = subst (λ (adjacency : IndexedCase). All (λ v. v < count_of adjacency) c.in_ok-faulty.faulty.items) (sym c.self.view_is) (all_places (λ v. v < count_of c.args.self.now) _ c.in_ok-faulty.ensures.below) in
    let Q : List ℕ → Type 0 = λ l. All (λ v. v < count_of c.self.inside.case.now) l in
    subst Q (sym c.deref.ensures.value) below

pub returns : goal.returns
returns c =
    let case = c.self.inside.case.now in
    let faulty = subst (λ (adjacency : IndexedCase). IsListOf (count_of adjacency) (λ u. (u < count_of adjacency) × ¬ IsSound (case_of adjacency) u) c.in_ok-faulty.faulty.items) (sym c.self.view_is) c.in_ok-faulty.ensures in
    let spoilt = rw c.deref.ensures.value at c.in_ok-bad.ensures.sets in
    let units = rw c.deref-2.ensures.value at c.in_ok-non_members.ensures.units in
    let others = rw (c.deref-2.ensures.value, c.in_ok-bad.ensures.units) at c.in_ok-non_members.ensures.others in
    let here : AreBitsOf (count_of case) (IsGood (case_of case)) c.in_ok-non_members.field-0.items = record {
      units = units ∙ c.in_ok-bad.ensures.units;
      sets = good_is case c.in_ok-faulty.faulty.items c.in_ok-bad.bad.items c.in_ok-non_members.field-0.items faulty spoilt others;
    } in
    subst (λ (adjacency : IndexedCase). AreBitsOf (count_of adjacency) (IsGood (case_of adjacency)) c.in_ok-non_members.field-0.items) c.self.view_is here
