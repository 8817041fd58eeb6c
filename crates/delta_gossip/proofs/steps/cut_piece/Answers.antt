use Rattle.std.proofs.Common.{◌≡◌}
use Rattle.delta_gossip.proofs.{Prelude.{slice_get, Some}, Shown.{cut_shown, got}}
use Rattle.delta_gossip.proofs.steps.cut_piece.Goals as goal

pub returns-clause-model : goal.returns-clause-model
returns-clause-model c w h =
    let here : slice_get c.args.world.now.replicas.items c.args.node ≡ Some c.in-Some.replica.now = got (λ r. r.now) c.args.world.now.replicas.items c.args.node c.in-Some.replica (rw c.deref.ensures.value at c.in-Some.ensures.lookup) in
    let asked : slice_get c.args.world.now.asks.items c.args.ask ≡ Some c.in-Some-get.asked.now = got (λ r. r.now) c.args.world.now.asks.items c.args.ask c.in-Some-get.asked (rw c.deref-2.ensures.value at c.in-Some-get.ensures.lookup) in
    rw c.in_ok-push.ensures.items (cut_shown w c.args.world.now.replicas.items _ _ h c.args.node c.args.ask c.args.places.now c.in-Some.replica.now c.in-Some-get.asked.now c.in_ok-piece.piece here asked c.in_ok-piece.ensures.cut)
