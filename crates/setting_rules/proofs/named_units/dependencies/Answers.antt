use Rattle.setting_rules.{proofs.Prelude.{ap, flat_map, list_for, map, notes_for, take_all, ◌∙◌}, specs.Dependencies.{lists_of, word_notes}}
use Rattle.setting_rules.proofs.named_units.dependencies.Goals as goal

pub returns-clause-lists : goal.returns-clause-lists
unfolding lists_of
returns-clause-lists c =
    c.loop-kind.invariant.0 ∙ ap (map (list_for c.args.settings.now.profile c.args.settings.now.map c.args.unit.now)) (take_all c.loop-kind.kind-index c.naming-kinds.result.now c.loop-kind-test.false ∙ c.loop-kind.invariant.2)

pub returns-clause-notes : goal.returns-clause-notes
unfolding word_notes
returns-clause-notes c =
    c.loop-kind.invariant.1 ∙ ap (flat_map (notes_for c.args.settings.now.profile c.args.settings.now.map c.args.unit.now)) (take_all c.loop-kind.kind-index c.naming-kinds.result.now c.loop-kind-test.false ∙ c.loop-kind.invariant.2)
