use Rattle.std.proofs.Common.{◌↔◌}
use Rattle.plan_choice.proofs.Prelude.{AreBitsOf, case_of, count_of, HasIdleRequisite, IndexedCase, IsAmong, IsIdle, IsLeast, IsMember, IsTrue, nat_cmp, subst, successors_from, sym, ℕ, ◌∙◌}
use Rattle.plan_choice.proofs.{Fitting.{is_false, stable, tested_none, tested_some}, WeakDependencyLemmas.{idle_found, idle_missed}}
use Rattle.plan_choice.proofs.case_sets.CaseSets.has_idle_requisite.Goals as goal

pub returns-in-Files : goal.returns-in-Files
returns-in-Files c =
    let case = c.self.inside.case.now in
    let idle = c.deref.result.now in
    let at_idle = subst (AreBitsOf (count_of case) (IsIdle (count_of case) (case_of case))) (sym c.deref.ensures.value) c.self.invariant.at_idle in
    let there : ℕ → Type 0 = λ v. IsAmong v (successors_from case.requisites c.args.unit) in
    let here : IsTrue c.is_some.result ↔ HasIdleRequisite (case_of case) c.args.unit = (
      λ t. (let found = tested_some ((v : ℕ) → there v → ¬ IsMember idle v) (IsLeast nat_cmp (λ v. there v × IsMember idle v)) c.least_member.result c.least_member.ensures.least (sym c.is_some.ensures ∙ t) in
          idle_found case idle at_idle c.in-Files.is c.args.unit found.0 found.1.member.0 found.1.member.1),
      λ h. stable c.is_some.result (λ out. idle_missed case idle at_idle c.args.unit
          (tested_none ((v : ℕ) → there v → ¬ IsMember idle v) (IsLeast nat_cmp (λ v. there v × IsMember idle v)) c.least_member.result c.least_member.ensures.least (sym c.is_some.ensures ∙ is_false _ out)) h),
    ) in
    subst (λ (adjacency : IndexedCase). IsTrue c.is_some.result ↔ HasIdleRequisite (case_of adjacency) c.args.unit) c.self.view_is here
