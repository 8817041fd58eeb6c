use Rattle.std.proofs.Common.{◌≡◌}
use Rattle.sorted_pairs.proofs.Prelude.{ap, below_append, below_first, get_or, is_less, is_lt, Less, rules, sym, ◌∙◌}
use Rattle.sorted_pairs.proofs.passes.pass_below.Goals as goal

pub loop-pair-preserved : goal.loop-pair-preserved
loop-pair-preserved g c =
    let less : g.K.Ord.cmp c.in-Some.pair.now.0 c.args.key.now ≡ Less = is_less _ (ap is_lt (sym c.cmp.ensures) ∙ sym c.is_lt.ensures ∙ c.if-not-is_lt.false) in
    let head : g.K.Ord.cmp (get_or c.loop-pair.rest.items 0 c.in-Some.pair.now).0 c.args.key.now ≡ Less = rw c.in-Some.ensures.lookup at less in
    record {
      pairs = search rules;
      below = rw c.pass_one.ensures.first (below_append g.K.Ord.cmp c.args.key.now c.loop-pair.passed.items _ c.loop-pair.invariant.below (below_first g.K.Ord.cmp c.args.key.now c.loop-pair.rest.items c.in-Some.pair.now head));
      len = search rules;
      room = search rules;
      capacity = search rules;
    }
