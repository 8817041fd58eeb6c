use Rattle.implied_names.proofs.Prelude.{ap, bytes_eq, list_any, map, options, ◌∙◌}
use Rattle.unit_values.specs.ValueLaws.{any_borrowed}
use Rattle.implied_names.proofs.unit_facts.Facts.takes.Goals as goal

pub returns : goal.returns
returns c =
    let held = ap (map (λ it. it.now)) c.deref.ensures.value ∙ c.self.invariant.1 ∙ ap options c.self.view_is in
    record { test = c.is_among.ensures.test ∙ any_borrowed (bytes_eq c.args.option.now) c.deref.result.now ∙ ap (list_any (bytes_eq c.args.option.now)) held }
