use Rattle.std.proofs.Common.{◌≡◌}
use Rattle.delta_gossip.proofs.{Prelude.{slice_get, Some}, Shown.{ask_shown, got}}
use Rattle.delta_gossip.proofs.steps.ask_as.Goals as goal

pub returns-clause-model : goal.returns-clause-model
returns-clause-model c w h =
    let here : slice_get c.args.world.now.replicas.items c.args.node ≡ Some c.in-Some.replica.now = got (λ r. r.now) c.args.world.now.replicas.items c.args.node c.in-Some.replica (rw c.deref.ensures.value at c.in-Some.ensures.lookup) in
    rw c.in_ok-push.ensures.items (ask_shown w c.args.world.now.replicas.items _ _ h c.args.node c.in-Some.replica.now c.in_ok-asked.asked here c.in_ok-asked.ensures.digest)
