use Rattle.host_trees.proofs.{Pairs.{mapped_at, mapped_more}, Prelude.{arith, refl, said}}
use Rattle.host_trees.proofs.crossings.are_same.Goals as goal

pub loop-i-preserved : goal.loop-i-preserved
loop-i-preserved c =
    let x = c.index-left-i.result in
    let y = c.index-right-i.result in (
      c.loop-i.invariant.0,
      mapped_more said _ _ c.loop-i.i x y c.index-left-i.is c.index-right-i.is (omega arith) (omega (arith, c.loop-i.invariant.0)) (c.if-not-is_same.ensures.same.0 refl) c.loop-i.invariant.1,
    )

pub returns-then-not-is_same : goal.returns-then-not-is_same
returns-then-not-is_same c =
    let x = c.index-left-i.result in
    let y = c.index-right-i.result in
    record {
      same = (
        λ t. cc (t),
        λ e. c.if-not-is_same.ensures.same.1 (mapped_at said _ _ c.loop-i.i x y c.index-left-i.is c.index-right-i.is (omega arith) (omega (arith, c.loop-i.invariant.0)) e),
      );
    }
