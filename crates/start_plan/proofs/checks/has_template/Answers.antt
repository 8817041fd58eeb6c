use Rattle.std.proofs.Common.{◌++◌, ◌+◌, ◌∷◌, ◌≡◌}
use Rattle.start_plan.proofs.Prelude.{[], among_from_contains, ap, Contains-get_or, false, inl, inr, IsAmong, IsAmong-push_cases, List, Name, refl, shape, subst, sym, take, take_more, true, ◌∙◌}
use Rattle.start_plan.proofs.checks.has_template.Goals as goal

pub returns-then-is_template : goal.returns-then-is_template
returns-then-is_template c =
    let x = c.name-item.result in
    let P : Name → Type 0 = λ n. IsAmong n c.args.names.now in
    let there : IsAmong x c.args.names.now =
    subst P (sym c.name-item.is) (among_from_contains _ c.args.names.now (Contains-get_or c.args.names.now c.loop-name.name-index x c.loop-name-test.true)) in
    record { template = (λ _. (x, there, c.if-is_template.ensures.template.0 refl), λ _. refl) }

pub loop-name-preserved : goal.loop-name-preserved
loop-name-preserved c =
    let i = c.loop-name.name-index in
    let x = c.name-item.result in
    let more : take (i + 1) c.args.names.now ≡ take i c.args.names.now ++ x ∷ [] =
    take_more c.args.names.now i x c.loop-name-test.true ∙ ap (λ n. take i c.args.names.now ++ n ∷ []) (sym c.name-item.is) in
    λ h. (let P : List Name → Type 0 = λ l. IsAmong h.0 l in
    elim (IsAmong-push_cases x h.0 (take i c.args.names.now) (subst P more h.1)) [
      | inl a ↦ c.loop-name.invariant (h.0, a, h.2)
      | inr e ↦ (let f : false ≡ true = c.if-is_template.ensures.template.1 (ap shape e ∙ h.2) in cc (f))
    ])
