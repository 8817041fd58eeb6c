use Rattle.index_rows.proofs.{Levels.{IsSpread-append}, Prelude.{refl, take_more}, Spreading.{IsSpread-at}}
use Rattle.index_rows.proofs.bits.spread.Goals as goal

pub loop-node-preserved : goal.loop-node-preserved
loop-node-preserved c =
    IsSpread-at _ _ _ _ _ _ _ _ refl refl (take_more c.args.nodes.now c.loop-node.node-index 0 c.loop-node-test.true)
    (IsSpread-append _ _ _ _ _ _ _ _ c.loop-node.invariant c.in_ok-add_member.ensures)
