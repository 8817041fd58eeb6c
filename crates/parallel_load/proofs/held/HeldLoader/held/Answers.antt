use Rattle.parallel_load.proofs.{Prelude.{All, HostViewMap, IsHeldOn, subst}, Staying.{held_is}}
use Rattle.parallel_load.proofs.held.HeldLoader.held.Goals as goal

pub returns-in-Ok : goal.returns-in-Ok
returns-in-Ok c = record {
  loaded =
      held_is c.args.self.now c.args.name.now c.self.inside.held.items c.in-Ok.at c.index.result.now c.as_ref.result (rw c.deref.ensures.value at c.in-Ok.ensures.found) c.index.ensures
      (subst (λ (v : HostViewMap). All (IsHeldOn v) c.self.inside.held.items) c.self.view_is c.self.invariant.loaded) c.as_ref.ensures.value;
}
