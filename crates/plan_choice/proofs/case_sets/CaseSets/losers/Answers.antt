use Rattle.std.proofs.Common.{◌++◌}
use Rattle.plan_choice.proofs.Prelude.{ap, case_of, count_of, IndexedCase, IsListOf, LosesTo, MissesRequisite, nat_cmp, subst, ℕ, ◌∙◌}
use Rattle.plan_choice.proofs.WeakDependencyLemmas.{listed_either}
use Rattle.plan_choice.proofs.case_sets.CaseSets.losers.Goals as goal

pub returns : goal.returns
returns c =
    let case = c.args.self.now in
    let lost = subst (λ (adjacency : IndexedCase). IsListOf (count_of adjacency) (λ u. (v : ℕ) × LosesTo nat_cmp (case_of adjacency) u v) c.in_ok-losers.losers.items) c.self.view_is c.in_ok-losers.ensures in
    listed_either (λ u. (v : ℕ) × LosesTo nat_cmp (case_of case) u v) (MissesRequisite nat_cmp (case_of case)) c.in_ok-losers.losers.items c.in_ok-missing.missing.items c.extend_from_slice.new.self.items (count_of case)
    (c.in_ok-extend_from_slice.ensures.items ∙ ap (λ l. c.in_ok-losers.losers.items ++ l) c.deref-4.ensures.value) lost c.in_ok-missing.ensures
