use Rattle.std.proofs.Common.{◌<◌, ◌↔◌}
use Rattle.plan_choice.proofs.Prelude.{AreBitsOf, case_of, count_of, HasIdleRequisite, IndexedCase, IsAmong, IsLeast, IsMember, IsNeeded, IsSound, IsTrue, member_read, nat_cmp, subst, successors_from, sym, ℕ}
use Rattle.plan_choice.proofs.{Fitting.{none_tested, nothing_there, nothing_there_is, tested_none, untrue}, WeakDependencyLemmas.{run_unless_idle}}
use Rattle.plan_choice.proofs.case_sets.CaseSets.is_sound.Goals as goal

pub returns : goal.returns
returns c =
    let case = c.self.inside.case.now in
    let needed = c.deref.result.now in
    let conflicting = c.self.invariant.to_conflicting in
    let at_needed = subst (AreBitsOf (count_of case) (IsNeeded (case_of case))) (sym c.deref.ensures.value) c.self.invariant.at_needed in
    let inside = subst (λ (adjacency : IndexedCase). c.args.unit < count_of adjacency) (sym c.self.view_is) c.requires in
    let against : ℕ → Type 0 = λ v. IsAmong v (successors_from c.self.inside.conflicting c.args.unit) in
    let none_idle = subst (λ (adjacency : IndexedCase). ¬ HasIdleRequisite (case_of adjacency) c.args.unit) (sym c.self.view_is) (λ h. untrue _ c.if-has_idle_requisite.false (c.has_idle_requisite.ensures.1 h)) in
    let loaded = member_read case.loaded.items c.args.unit c.index.result.now c.index.ensures inside c.if-not-index.false in
    let here : IsTrue c.is_none.result ↔ IsSound (case_of case) c.args.unit = (
      λ t. record {
        loaded = loaded;
        requisites_run = run_unless_idle case c.args.unit none_idle;
        at_peace = λ v n k. tested_none ((w : ℕ) → against w → ¬ IsMember needed w) (IsLeast nat_cmp (λ w. against w × IsMember needed w)) c.least_member.result c.least_member.ensures.least (nothing_there _ _ (sym c.is_none.ensures) t) v
            ((conflicting.pairs c.args.unit v).1 k) ((at_needed.sets v).1 n);
      },
      λ s. nothing_there_is _ _ (sym c.is_none.ensures) (none_tested ((w : ℕ) → against w → ¬ IsMember needed w) (IsLeast nat_cmp (λ w. against w × IsMember needed w)) c.least_member.result c.least_member.ensures.least
          (λ x l. s.at_peace x ((at_needed.sets x).0 l.member.1) ((conflicting.pairs c.args.unit x).0 l.member.0))),
    ) in
    subst (λ (adjacency : IndexedCase). IsTrue c.is_none.result ↔ IsSound (case_of adjacency) c.args.unit) c.self.view_is here
