use Rattle.std.proofs.{Common.{ap, arith, length, sym, ◌∙◌}, lemmas.Option.{none-some}}
use Rattle.inverse_deps.specs.Prelude.{unit_part}
use Rattle.fleet_answers.proofs.Units.{part_at}
use Rattle.fleet_answers.proofs.from_loads.unit_at.Goals as goal

pub unreachable-requires : goal.unreachable-requires
unreachable-requires c =
    let at = part_at c.args.loaded.now c.names.result.now c.names.ensures.names c.names.ensures.sorted c.args.index c.index-names-index.result
    (omega (arith, c.requires.below, ap length c.names.ensures.names)) in
    absurd (none-some _ (sym (at ∙ ap unit_part c.in-Alias.is) ∙ c.requires.unit.1))

pub returns : goal.returns
returns c =
    let at = part_at c.args.loaded.now c.names.result.now c.names.ensures.names c.names.ensures.sorted c.args.index c.index-names-index.result
    (omega (arith, c.requires.below, ap length c.names.ensures.names)) in
    record { unit = at ∙ ap unit_part c.in-Unit.is }
