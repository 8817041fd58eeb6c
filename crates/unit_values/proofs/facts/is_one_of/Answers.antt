use Rattle.unit_values.{proofs.Prelude.{ap, bytes_eq, is_one_of, map, option_copied, sym, ◌∙◌}, specs.ValueLaws.{any_borrowed}}
use Rattle.unit_values.proofs.facts.is_one_of.Goals as goal

pub returns-in-Some : goal.returns-in-Some
returns-in-Some c = record {
  test = c.is_among.ensures.test ∙ any_borrowed (bytes_eq c.in-Some.text.now) c.args.texts.now ∙ sym (ap (λ o. is_one_of (map (λ text. text.now) c.args.texts.now) (option_copied o)) c.in-Some.is);
}
