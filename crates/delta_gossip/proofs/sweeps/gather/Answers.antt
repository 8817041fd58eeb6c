use Rattle.delta_gossip.proofs.{Joins.{on_err}, Rounds.{gathered_none, gathered_refused, gathered_step}}
use Rattle.delta_gossip.proofs.sweeps.gather.Goals as goal

pub loop-replica-init : goal.loop-replica-init
loop-replica-init c = gathered_none c.args.first.now c.args.rest.now

pub loop-replica-preserved : goal.loop-replica-preserved
loop-replica-preserved c =
    gathered_step c.args.first.now c.args.rest.now c.loop-replica.replica-index c.loop-replica.first c.replica-item.result c.merge.new.self c.store.result.now
    c.loop-replica-test.true c.replica-item.is c.store.ensures.store c.loop-replica.invariant c.in_ok-merge.ensures.ok

pub returns-in_err-merge-clause-between : goal.returns-in_err-merge-clause-between
returns-in_err-merge-clause-between c =
    on_err _
    (gathered_refused c.args.first.now c.args.rest.now c.loop-replica.replica-index c.loop-replica.first c.replica-item.result c.merge.new.self c.store.result.now
    c.loop-replica-test.true c.replica-item.is c.store.ensures.store c.loop-replica.invariant c.merge.ensures.writer c.in_err-merge.ensures.kept c.in_err-merge.ensures.within)
