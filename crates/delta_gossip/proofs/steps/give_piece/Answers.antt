use Rattle.delta_gossip.proofs.{Prelude.{slice_get_past}, Shown.{give_shown, got, no_give_shown, writers_kept}}
use Rattle.delta_gossip.proofs.steps.give_piece.Goals as goal

pub returns-in_default-get_mut-clause-model : goal.returns-in_default-get_mut-clause-model
returns-in_default-get_mut-clause-model c w h =
    no_give_shown w c.args.world.now.replicas.items _ _ h c.args.piece c.args.node
    (slice_get_past c.args.world.now.replicas.items c.args.node c.in_default-get_mut.ensures.item.3)

pub returns-clause-writers : goal.returns-clause-writers
returns-clause-writers c =
    writers_kept c.args.world.now.replicas.items c.args.node c.in-Some-get_mut.replica.now c.merge.new.self
    (got (λ r. r.now) c.args.world.now.replicas.items c.args.node c.in-Some-get_mut.replica c.in-Some-get_mut.ensures.item) c.in_ok-merge.ensures.writer

pub returns-clause-model : goal.returns-clause-model
returns-clause-model c w h =
    give_shown w c.args.world.now.replicas.items _ _ h c.args.piece c.args.node c.in-Some-get_mut.replica.now c.merge.new.self c.in-Some.piece.now c.store.result.now
    (got (λ r. r.now) c.args.world.now.replicas.items c.args.node c.in-Some-get_mut.replica c.in-Some-get_mut.ensures.item)
    (got (λ r. r.now) c.args.world.now.pieces.items c.args.piece c.in-Some.piece (rw c.deref.ensures.value at c.in-Some.ensures.lookup))
    c.store.ensures.store c.in_ok-merge.ensures.ok
