use Rattle.path_maps.proofs.{Prelude.{◌∙◌}, Scopes.{there}}
use Rattle.path_maps.proofs.stores.Store.get.Goals as goal

pub returns : goal.returns
returns c = record { held = c.get.ensures.held ∙ there c.args.self.now c.held_in.result c.args.place.now c.held_in.ensures.view }
