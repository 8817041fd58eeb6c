use Rattle.path_maps.proofs.{Prelude.{ap, map, ◌∙◌}, Readings.{keys_with}}
use Rattle.path_maps.proofs.places.Entries.of_scopes.Goals as goal

pub returns : goal.returns
returns c = record { entries = ap (map (λ p. p.0)) c.places_of.ensures.entries ∙ keys_with _ _ }
