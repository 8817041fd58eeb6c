use Rattle.unit_values.{proofs.{facts.values_in.Goals.{else-is_at, then-is_at+in_ok-push}, Prelude.{ap, map, sym, ◌∙◌}}, specs.ValueLaws.{passed, pushed}}
use Rattle.unit_values.specs.Facts.{values_in}
use Rattle.unit_values.proofs.facts.values_in.Goals as goal

pub loop-row-init : goal.loop-row-init
unfolding values_in
loop-row-init c = ap (map (λ value. value.now)) c.new-values.ensures.items

pub loop-row-preserved : goal.loop-row-preserved
loop-row-preserved c = elim c.if-is_at.branch [
  | then-is_at+in_ok-push w ↦ ap (λ v. map (λ value. value.now) v.items) w.values-is
      ∙ pushed c.args.section.now c.args.key.now c.args.rows.now c.loop-row.row-index _ c.row-item.result c.loop-row.values.items w.push.new.self.items w.as_slice.result c.loop-row-test.true c.row-item.is
      (sym c.is_at.ensures.test ∙ w.if-is_at.true) w.as_slice.ensures.bytes c.loop-row.invariant w.in_ok-push.ensures.items
  | else-is_at w ↦ ap (λ v. map (λ value. value.now) v.items) w.values-is ∙ c.loop-row.invariant
      ∙ sym (passed c.args.section.now c.args.key.now c.args.rows.now c.loop-row.row-index _ c.row-item.result c.loop-row-test.true c.row-item.is (sym c.is_at.ensures.test ∙ w.if-is_at.false))
]
