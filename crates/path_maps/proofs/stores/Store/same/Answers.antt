use Rattle.path_maps.proofs.{Prelude.{all_held, ap, sym, ◌∙◌}, Sames.{held_one}}
use Rattle.path_maps.proofs.stores.Store.same.Goals as goal

pub returns : goal.returns
returns c = record {
  same = (
    λ t. sym c.self.view_is ∙ ap all_held (c.same.ensures.equal.0 t) ∙ c.other.view_is,
    λ e. c.same.ensures.equal.1 (held_one _ _ c.self.invariant.scopes c.other.invariant.scopes (c.self.view_is ∙ e ∙ sym c.other.view_is)),
  );
}
