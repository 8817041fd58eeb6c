use Rattle.std.proofs.Common.{◌<◌}
use Rattle.plan_choice.proofs.Prelude.{ap, arith, Global, IsAmong, IsLeast, IsMember, IsMember-within, nat_cmp, successors_from, sym, Vec, ℕ, ◌∙◌}
use Rattle.plan_choice.proofs.{case_sets.leading_into.Goals.{else-is_source, else-is_source-via-else-is_source, else-is_source-via-then-is_source+else-is_some, then-is_source+then-is_some+in_ok-push}, Fitting.{tested_none, tested_some, untrue}, WeakDependencyLemmas.{listed_more, listed_still}}
use Rattle.plan_choice.proofs.case_sets.leading_into.Goals as goal

pub least_member-requires : goal.least_member-requires
least_member-requires c = record { successors = c.requires.successors; node = (let l = c.loop-unit-test.true in omega (arith, l, c.requires.units)) }

pub loop-unit-preserved : goal.loop-unit-preserved
loop-unit-preserved c =
    let there : ℕ → Type 0 = λ v. IsAmong v (successors_from c.args.successors.now c.loop-unit.unit) in
    let P : ℕ → Type 0 = λ u. IsMember c.args.sources.now u × ((v : ℕ) × (IsAmong v (successors_from c.args.successors.now u) × IsMember c.args.bits.now v)) in
    elim c.if-is_source.branch [
      | then-is_source+then-is_some+in_ok-push w ↦
          (let found = tested_some ((v : ℕ) → there v → ¬ IsMember c.args.bits.now v) (IsLeast nat_cmp (λ v. there v × IsMember c.args.bits.now v)) w.least_member.result w.least_member.ensures.least (sym w.is_some.ensures ∙ w.if-is_some.true) in
          listed_more P _ _ _ c.loop-unit.invariant (w.if-is_source.true, (found.0, (found.1.member.0, found.1.member.1)))
          (ap (λ (v : Vec ℕ Global). v.items) w.units-is ∙ w.in_ok-push.ensures.items))
      | else-is_source w ↦ elim w.else-is_source.branch [
        | else-is_source-via-then-is_source+else-is_some v ↦
            (let none = tested_none ((x : ℕ) → there x → ¬ IsMember c.args.bits.now x) (IsLeast nat_cmp (λ x. there x × IsMember c.args.bits.now x)) v.least_member.result v.least_member.ensures.least (sym v.is_some.ensures ∙ v.if-is_some.false) in
            listed_still P _ _ _ c.loop-unit.invariant (λ h. none h.1.0 h.1.1.0 h.1.1.1) (ap (λ (x : Vec ℕ Global). x.items) w.units-is))
        | else-is_source-via-else-is_source v ↦
            listed_still P _ _ _ c.loop-unit.invariant (λ h. untrue _ v.if-is_source.false h.0) (ap (λ (x : Vec ℕ Global). x.items) w.units-is)
      ]
    ]

pub returns : goal.returns
returns c = record {
  below = λ u h. (let l : u < c.loop-unit.unit = ((c.loop-unit.invariant u).0 h).0 in omega (arith, l, c.requires.units));
  members = λ u. (
    λ h. ((c.loop-unit.invariant u).0 h).1,
    λ h. (let l = IsMember-within c.args.sources.now u h.0 in (c.loop-unit.invariant u).1 (omega (arith, l), h)),
  );
}
