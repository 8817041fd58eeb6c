use Rattle.delta_gossip.proofs.{Prelude.{ap, Replicated, slice_get_past}, Shown.{got, no_put_shown, put_shown, writers_kept}}
use Rattle.delta_gossip.proofs.steps.put_edit.Goals as goal

pub returns-in_default-clause-model : goal.returns-in_default-clause-model
returns-in_default-clause-model c w h =
    no_put_shown w c.args.world.now.replicas.items _ _ h c.args.node c.args.edit.now
    (slice_get_past c.args.world.now.replicas.items c.args.node c.in_default.ensures.item.3)

pub returns-clause-writers : goal.returns-clause-writers
returns-clause-writers c =
    writers_kept c.args.world.now.replicas.items c.args.node c.in-Some.replica.now c.join_store.new.replica
    (got (λ r. r.now) c.args.world.now.replicas.items c.args.node c.in-Some.replica c.in-Some.ensures.item) (ap (λ (q : Replicated). q.writer) c.in_ok-join_store.ensures.ok)

pub returns-clause-model : goal.returns-clause-model
returns-clause-model c w h =
    put_shown w c.args.world.now.replicas.items _ _ h c.args.node c.args.edit.now c.in-Some.replica.now c.join_store.new.replica c.in_ok-from_edits.field-0
    (got (λ r. r.now) c.args.world.now.replicas.items c.args.node c.in-Some.replica c.in-Some.ensures.item)
    (rw c.from_ref.ensures.value at c.in_ok-from_edits.ensures.sum) c.in_ok-join_store.ensures.ok
