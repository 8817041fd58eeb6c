use Rattle.unit_values.{proofs.Prelude.{ap, last_boolean, map, map-append, option_or, refl, sym, take, ◌∙◌}, specs.ValueLaws.{boolean-push, one_more}}
use Rattle.unit_values.proofs.facts.last_boolean.Goals as goal

pub loop-value-init : goal.loop-value-init
loop-value-init c = refl

pub loop-value-preserved : goal.loop-value-preserved
loop-value-preserved c =
    let before = take c.loop-value.value-index c.args.values.now in
    c.or-last.ensures ∙ ap (λ o. option_or o c.loop-value.last) c.boolean.ensures.boolean
    ∙ ap (option_or _) c.loop-value.invariant
    ∙ boolean-push (map (λ value. value.now) before) _
    ∙ sym (ap (λ l. last_boolean (map (λ value. value.now) l)) (one_more c.args.values.now c.loop-value.value-index _ _ c.loop-value-test.true refl) ∙ ap last_boolean (map-append (λ value. value.now) before _))
