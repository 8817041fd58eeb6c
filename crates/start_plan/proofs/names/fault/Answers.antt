use Rattle.std.proofs.Common.{◌≡◌}
use Rattle.start_plan.proofs.{BitSets.{part_at}, Prelude.{ap, arith, false, inl, inr, is_loaded_by, is_loaded, length, none-some, option_map, Some, sym, true, unit_part, ◌∙◌}}
use Rattle.start_plan.proofs.names.fault.Goals as goal

pub unreachable-requires : goal.unreachable-requires
unreachable-requires c =
    let at = part_at c.args.loaded.now c.names.result.now c.names.ensures.names c.names.ensures.sorted c.args.index c.index-names-index.result
    (omega (arith, c.requires.below, ap length c.names.ensures.names)) in
    let f : false ≡ true = sym c.requires.unloaded ∙ ap is_loaded (at ∙ ap unit_part c.in-Unit.is ∙ ap Some (sym c.get.ensures.value)) ∙ elim c.in-Loaded.is [ inl l ↦ ap is_loaded_by l.1 | inr b ↦ ap is_loaded_by b ] in
    cc (f)

pub unreachable-requires-in-Alias : goal.unreachable-requires-in-Alias
unreachable-requires-in-Alias c =
    let at = part_at c.args.loaded.now c.names.result.now c.names.ensures.names c.names.ensures.sorted c.args.index c.index-names-index.result
    (omega (arith, c.requires.below, ap length c.names.ensures.names)) in
    absurd (none-some _ (sym (at ∙ ap unit_part c.in-Alias.is) ∙ c.requires.unit.1))

pub returns-in-NotFound : goal.returns-in-NotFound
returns-in-NotFound c =
    let at = part_at c.args.loaded.now c.names.result.now c.names.ensures.names c.names.ensures.sorted c.args.index c.index-names-index.result
    (omega (arith, c.requires.below, ap length c.names.ensures.names)) in
    record { fault = (c.in_ok-name.ensures.name, ap (option_map (λ u. u.status)) (at ∙ ap unit_part c.in-Unit.is ∙ ap Some (sym c.get.ensures.value)) ∙ ap Some c.in-NotFound.is) }

pub returns-in-Masked : goal.returns-in-Masked
returns-in-Masked c =
    let at = part_at c.args.loaded.now c.names.result.now c.names.ensures.names c.names.ensures.sorted c.args.index c.index-names-index.result
    (omega (arith, c.requires.below, ap length c.names.ensures.names)) in
    record { fault = (c.in_ok-name.ensures.name, ap (option_map (λ u. u.status)) (at ∙ ap unit_part c.in-Unit.is ∙ ap Some (sym c.get.ensures.value)) ∙ ap Some c.in-Masked.is) }

pub returns-in-Bad : goal.returns-in-Bad
returns-in-Bad c =
    let at = part_at c.args.loaded.now c.names.result.now c.names.ensures.names c.names.ensures.sorted c.args.index c.index-names-index.result
    (omega (arith, c.requires.below, ap length c.names.ensures.names)) in
    record { fault = (c.in_ok-name.ensures.name, (c.in-Bad.field-0, ap (option_map (λ u. u.status)) (at ∙ ap unit_part c.in-Unit.is ∙ ap Some (sym c.get.ensures.value)) ∙ ap Some c.in-Bad.is)) }
