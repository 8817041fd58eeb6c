use Rattle.unit_values.{proofs.Prelude.{ap, is_empty, list_any, map, ◌∙◌}, specs.ValueLaws.{any_borrowed}}
use Rattle.unit_values.proofs.built_in.has_empty_part.Goals as goal

pub returns : goal.returns
returns c = record {
  test = c.has_empty.ensures.test ∙ any_borrowed is_empty c.deref.result.now ∙ ap (list_any is_empty) (ap (map (λ part. part.now)) c.deref.ensures.value ∙ c.in_ok-parts.ensures.parts);
}
