use Rattle.unit_name.proofs.{Prelude.{ap, is_at, length, unwrap_or, ◌∙◌}, Steps.{unwrap_or-position}}
use Rattle.unit_name.proofs.parts.first_at.Goals as goal

pub returns : goal.returns
returns c = record { place = c.unwrap_or.ensures ∙ ap (λ o. unwrap_or o (length c.args.bytes.now)) c.at_place.ensures.place ∙ unwrap_or-position is_at c.args.bytes.now }
