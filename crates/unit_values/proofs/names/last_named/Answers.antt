use Rattle.unit_values.{proofs.{names.last_named.Goals.{else-branch, then-branch}, Prelude.{ap, filter, last_of, map, map-append, names_unit, option_copied, refl, sym, take, ◌∙◌}}, specs.ValueLaws.{last_passed, last_taken, one_more}}
use Rattle.unit_values.proofs.names.last_named.Goals as goal

pub loop-text-preserved : goal.loop-text-preserved
loop-text-preserved c =
    let before = take c.loop-text.text-index c.args.texts.now in
    let more = ap (λ l. last_of (filter (names_unit c.args.own) (map (λ text. text.now) l))) (one_more c.args.texts.now c.loop-text.text-index _ _ c.loop-text-test.true refl)
    ∙ ap (λ l. last_of (filter (names_unit c.args.own) l)) (map-append (λ text. text.now) before _) in
    elim c.if-branch.branch [
      | then-branch w ↦ ap option_copied w.last-is ∙ sym (last_taken (names_unit c.args.own) (map (λ text. text.now) before) _ (sym c.in_ok-names_unit.ensures.test ∙ w.if-branch.true)) ∙ sym more
      | else-branch w ↦ ap option_copied w.last-is ∙ c.loop-text.invariant ∙ sym (last_passed (names_unit c.args.own) (map (λ text. text.now) before) _ (sym c.in_ok-names_unit.ensures.test ∙ w.if-branch.false)) ∙ sym more
    ]
