use Rattle.std.proofs.Common.{◌∷◌, ◌≡◌}
use Rattle.join_maps.proofs.Prelude.{ap, arith, length, refl, sym, ◌∙◌}
use Rattle.join_maps.proofs.walks.same_maps.Goals as goal

pub loop-pair-init : goal.loop-pair-init
loop-pair-init g c = (λ e. sym c.pairs-pairs.ensures.pairs ∙ e ∙ c.pairs-others.ensures.pairs, λ e. c.pairs-pairs.ensures.pairs ∙ e ∙ sym c.pairs-others.ensures.pairs)

pub returns-in_default-next : goal.returns-in_default-next
returns-in_default-next g c = record {
  same = (λ t. cc (t), λ e. let t = sym c.in-Some.ensures.first ∙ c.loop-pair.invariant.1 e ∙ c.in_default-next.ensures.first.0 in cc (t));
}

pub returns-then-not-same_pair : goal.returns-then-not-same_pair
returns-then-not-same_pair g c = record {
  same = (
    λ t. cc (t),
    λ e.
        let t = sym c.in-Some.ensures.first ∙ c.loop-pair.invariant.1 e ∙ c.in-Some-next.ensures.first in
        let head : c.in-Some.pair.now ≡ c.in-Some-next.other.now = cc (t) in
        c.if-not-same_pair.ensures.same.1 head,
  );
}

pub loop-pair-smaller : goal.loop-pair-smaller
loop-pair-smaller g c = omega (arith, ap length c.in-Some.ensures.first)

pub loop-pair-preserved : goal.loop-pair-preserved
loop-pair-preserved g c =
    let head : c.in-Some.pair.now ≡ c.in-Some-next.other.now = c.if-not-same_pair.ensures.same.0 refl in (
      λ e. c.loop-pair.invariant.0 (c.in-Some.ensures.first ∙ (λ i. head i ∷ e i) ∙ sym c.in-Some-next.ensures.first),
      λ e. let t = sym c.in-Some.ensures.first ∙ c.loop-pair.invariant.1 e ∙ c.in-Some-next.ensures.first in cc (t),
    )
