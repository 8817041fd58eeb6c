use Rattle.path_maps.proofs.{Prelude.{ap, Entry, Option, option_and_then, shown, ◌∙◌}, Scopes.{there}}
use Rattle.path_maps.proofs.stores.Store.visible.Goals as goal

pub returns : goal.returns
returns c = record {
  visible = c.visible.ensures.visible ∙ ap (λ (x : Option Entry). option_and_then shown x) (there c.args.self.now c.held_in.result c.args.place.now c.held_in.ensures.view);
}
