use Rattle.path_maps.proofs.{Prelude.{ap, AreWellFormed, flat, Option, or_empty, RankMap, subst, sym, ◌∙◌}, Scopes.{scope_kept, scope_viewed}}
use Rattle.path_maps.proofs.stores.Store.held_in.Goals as goal

pub of-requires : goal.of-requires
of-requires c = record {
  well_formed = subst (λ (o : Option RankMap). AreWellFormed (or_empty o)) (sym c.get.ensures.value) (scope_kept c.self.inside.scopes c.self.inside.len c.self.inside.high c.self.invariant c.args.scope.now);
}

pub returns : goal.returns
returns c = record {
  view = c.of.ensures.view ∙ ap (λ (o : Option RankMap). flat (or_empty o)) c.get.ensures.value
      ∙ scope_viewed c.self.inside.scopes c.self.invariant.scopes c.args.self.now c.self.view_is c.args.scope.now;
}
