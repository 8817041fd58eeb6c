use Rattle.std.proofs.Common.{◌<◌, ◌≡◌}
use Rattle.plan_choice.proofs.{Fitting.{untrue}, Prelude.{among_from_contains, arith, Contains-get_or, contains_from_among, get_or, get_or_default, IsMember, refl, subst, sym, ◌∙◌}}
use Rattle.plan_choice.proofs.case_sets.loses.Goals as goal

pub returns : goal.returns
returns c = (
  λ t. cc,
  λ s. (let k = contains_from_among s.0 c.args.namers.now s.1.0 in
      let e : get_or c.args.namers.now k.0 0 ≡ s.0 = get_or_default c.args.namers.now k.0 0 s.0 k.1 ∙ k.2 in
      absurd (c.loop-other.invariant k.0 (omega (arith, k.1)) (subst (IsMember c.args.extra.now) (sym e) s.1.1) (subst (λ w. IsMember c.args.named.now w → w < c.args.unit) (sym e) s.1.2))),
)

pub returns-then-other-unit : goal.returns-then-other-unit
returns-then-other-unit c = (
  λ t. (
    get_or c.args.namers.now c.loop-other.other-index 0,
    (among_from_contains _ c.args.namers.now (Contains-get_or c.args.namers.now c.loop-other.other-index 0 c.loop-other-test.true), c.if-extra-other.true, λ m. c.if-other-unit.true),
  ),
  λ s. refl,
)

pub returns-then-not-named-other : goal.returns-then-not-named-other
returns-then-not-named-other c = (
  λ t. (
    get_or c.args.namers.now c.loop-other.other-index 0,
    (among_from_contains _ c.args.namers.now (Contains-get_or c.args.namers.now c.loop-other.other-index 0 c.loop-other-test.true), c.if-extra-other-2.true, λ m. absurd (untrue _ c.if-not-named-other.true m)),
  ),
  λ s. refl,
)
