use Rattle.index_rows.proofs.Prelude.{ap, get_or, Global, List, refl, take_more, Vec}
use Rattle.index_rows.proofs.{bits.spread_inside.Goals.{else-inside-node, then-inside-node+in_ok-add_member}, Insides.{spread_member, spread_non_members}, Spreading.{IsSpread-at}}
use Rattle.index_rows.proofs.bits.spread_inside.Goals as goal

abbrev items : {A : Type 0} → Vec A Global → List A
items v = v.items

pub loop-node-preserved : goal.loop-node-preserved
loop-node-preserved c =
    let more = take_more c.args.nodes.now c.loop-node.node-index 0 c.loop-node-test.true in
    elim c.if-inside-node.branch [
      | then-inside-node+in_ok-add_member w ↦
          IsSpread-at _ _ _ _ _ _ _ _ (ap items w.seen-is) (ap items w.noted-is) refl
          (spread_member _ _ _ _ c.args.inside.now _ _ (get_or c.args.nodes.now c.loop-node.node-index 0) more c.loop-node.invariant _ _ w.if-inside-node.true w.in_ok-add_member.ensures)
      | else-inside-node w ↦
          IsSpread-at _ _ _ _ _ _ _ _ (ap items w.seen-is) (ap items w.noted-is) refl
          (spread_non_members _ _ _ _ c.args.inside.now _ _ (get_or c.args.nodes.now c.loop-node.node-index 0) more c.loop-node.invariant w.if-inside-node.false)
    ]
