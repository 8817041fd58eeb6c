use Rattle.implied_names.proofs.{mount_roles.last_failing.Goals.{else-says_failing, then-says_failing}, Prelude.{ap, filter, last_of, map, map-append, option_copied, refl, says_failing, sym, take, ◌∙◌}}
use Rattle.unit_values.specs.ValueLaws.{last_passed, last_taken, one_more}
use Rattle.implied_names.proofs.mount_roles.last_failing.Goals as goal

pub loop-option-preserved : goal.loop-option-preserved
loop-option-preserved c =
    let before = take c.loop-option.option-index c.args.options.now in
    let more = ap (λ l. last_of (filter says_failing (map (λ option. option.now) l))) (one_more c.args.options.now c.loop-option.option-index _ _ c.loop-option-test.true refl)
    ∙ ap (λ l. last_of (filter says_failing l)) (map-append (λ option. option.now) before _) in
    elim c.if-says_failing.branch [
      | then-says_failing w ↦ ap option_copied w.last-is ∙ sym (last_taken says_failing (map (λ option. option.now) before) _ (sym c.says_failing.ensures.test ∙ w.if-says_failing.true)) ∙ sym more
      | else-says_failing w ↦ ap option_copied w.last-is ∙ c.loop-option.invariant ∙ sym (last_passed says_failing (map (λ option. option.now) before) _ (sym c.says_failing.ensures.test ∙ w.if-says_failing.false)) ∙ sym more
    ]
