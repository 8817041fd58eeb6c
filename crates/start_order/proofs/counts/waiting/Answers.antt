use Rattle.start_order.proofs.Prelude.{arith}
use Rattle.start_order.proofs.{counts.waiting.Goals.{else-chosen-other, else-chosen-other-via-else-chosen-other, else-chosen-other-via-then-chosen-other+else-not-standing-other, then-chosen-other+then-not-standing-other}, Waiting.{both_hold, first_fails, second_fails, waiting_no, waiting_yes}}
use Rattle.start_order.proofs.counts.waiting.Goals as goal

pub loop-other-preserved : goal.loop-other-preserved
loop-other-preserved c =
    elim c.if-chosen-other.branch [
      | then-chosen-other+then-not-standing-other w ↦
          (let a = waiting_yes c.args.chosen.now c.args.standing.now c.args.nodes.now c.loop-other.other-index c.loop-other-test.true (both_hold _ _ w.if-chosen-other.true w.if-not-standing-other.true) in
          let i = c.loop-other.invariant in
          record { counted = omega (arith, a, w.count-is, i.counted); short = omega (arith, w.count-is, i.short) })
      | else-chosen-other w ↦ elim w.else-chosen-other.branch [
        | else-chosen-other-via-then-chosen-other+else-not-standing-other v ↦
            (let a = waiting_no c.args.chosen.now c.args.standing.now c.args.nodes.now c.loop-other.other-index c.loop-other-test.true (second_fails _ _ v.if-not-standing-other.false) in
            let i = c.loop-other.invariant in
            record { counted = omega (arith, a, w.count-is, i.counted); short = omega (arith, w.count-is, i.short) })
        | else-chosen-other-via-else-chosen-other v ↦
            (let a = waiting_no c.args.chosen.now c.args.standing.now c.args.nodes.now c.loop-other.other-index c.loop-other-test.true (first_fails _ _ v.if-chosen-other.false) in
            let i = c.loop-other.invariant in
            record { counted = omega (arith, a, w.count-is, i.counted); short = omega (arith, w.count-is, i.short) })
      ]
    ]
