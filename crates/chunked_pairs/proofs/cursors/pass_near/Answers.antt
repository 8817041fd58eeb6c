use Rattle.chunked_pairs.proofs.{Passes.{after_more}, Prelude.{ap, is_less, is_lt, sym, ◌∙◌}}
use Rattle.chunked_pairs.proofs.cursors.pass_near.Goals as goal

pub loop-preserved : goal.loop-preserved
loop-preserved g c = after_more g.K.Ord.cmp c.args.key.now c.args.pairs.now c.loop.left.now c.in-Some.rest.now c.in-Some.pair.now c.loop.invariant c.in-Some.ensures.cases.0
    (is_less _ (ap is_lt (sym c.cmp-order.ensures) ∙ sym c.is_lt.ensures ∙ c.if-not-is_lt.false))
