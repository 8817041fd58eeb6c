use Rattle.path_maps.proofs.{Prelude.{ap, AreWellFormed, flat, Host, Option, or_empty, Own, PathMap, RankMap, subst, sym, ◌∙◌}, Scopes.{scope_kept, scope_viewed}}
use Rattle.path_maps.proofs.stores.Store.own_of.Goals as goal

pub of-held-requires : goal.of-held-requires
of-held-requires c = record {
  well_formed = subst (λ (o : Option RankMap). AreWellFormed (or_empty o)) (sym c.host_at.ensures.ranks) (scope_kept c.self.inside.scopes c.self.inside.len c.self.inside.high c.self.invariant (Host c.args.host.now));
}

pub returns : goal.returns
returns c =
    let held = c.of-held.ensures.view ∙ ap (λ (o : Option RankMap). flat (or_empty o)) c.host_at.ensures.ranks
    ∙ scope_viewed c.self.inside.scopes c.self.invariant.scopes c.args.self.now c.self.view_is (Host c.args.host.now) in
    record { own = ap (λ (m : PathMap). let own : Own = record { host = c.args.host.now; held = m } in own) held }
