use Rattle.delta_gossip.proofs.{Joins.{on_err}, Rounds.{spread_refused, spread_step}}
use Rattle.delta_gossip.proofs.sweeps.spread.Goals as goal

pub loop-replica-preserved : goal.loop-replica-preserved
loop-replica-preserved c =
    spread_step c.args.first.now.store c.args.rest.now c.loop-replica.rest c.loop-replica.replica-index c.replica-item.result c.merge.new.self c.store.result.now
    c.loop-replica-test.true c.requires.below c.loop-replica.invariant c.store.ensures.store c.in_ok-merge.ensures.ok

pub returns-in_err-merge-clause-between : goal.returns-in_err-merge-clause-between
returns-in_err-merge-clause-between c =
    on_err _
    (spread_refused c.args.first.now.store c.args.rest.now c.loop-replica.rest c.loop-replica.replica-index c.replica-item.result c.merge.new.self
    c.store.result.now c.loop-replica-test.true c.requires.below c.loop-replica.invariant c.store.ensures.store c.merge.ensures.writer
    c.in_err-merge.ensures.kept c.in_err-merge.ensures.within)
