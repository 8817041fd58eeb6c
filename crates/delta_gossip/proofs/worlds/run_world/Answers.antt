use Rattle.std.proofs.Common.{◌++◌, ◌≡◌}
use Rattle.delta_gossip.proofs.{Prelude.{blank, Event, IsSumOf, IsWorld, length, List, reverse, subst, sum_of, take_all, Took, took, world_after, ◌∙◌}, Runs.{after_more, agree_shown, each_shown, same_shown}}
use Rattle.delta_gossip.proofs.worlds.run_world.Goals as goal

pub loop-event-preserved : goal.loop-event-preserved
loop-event-preserved c = (
  c.in_ok-step.ensures.writers ∙ c.loop-event.invariant.0,
  rw (after_more c.args.events.now c.loop-event.event-index c.event-item.result (blank (length c.args.writers.now)) c.loop-event-test.true, ← c.event-item.is) (c.in_ok-step.ensures.model _ c.loop-event.invariant.1),
)

shown : (c : goal.After-loop-event) → IsWorld (world_after (length c.args.writers.now) c.args.events.now) c.loop-event.world
shown c =
    subst (λ (es : List Event). IsWorld (world_after (length c.args.writers.now) es) c.loop-event.world)
    (take_all c.loop-event.event-index c.args.events.now c.loop-event-test.false) c.loop-event.invariant.1

pub returns-clause-sums : goal.returns-clause-sums
returns-clause-sums c honest k =
    each_shown (world_after (length c.args.writers.now) c.args.events.now) c.loop-event.world.replicas.items _ _ (shown c) k (λ es s. s ≡ sum_of es)
    (c.converges.ensures.sums (length c.args.writers.now) c.args.events.now honest k)

pub returns-clause-by_events : goal.returns-clause-by_events
returns-clause-by_events c honest k =
    each_shown (world_after (length c.args.writers.now) c.args.events.now) c.loop-event.world.replicas.items _ _ (shown c) k
    (λ es s. IsSumOf (Took (length c.args.writers.now) (reverse c.args.events.now) k) s)
    (c.converges.ensures.by_events (length c.args.writers.now) c.args.events.now honest k)

pub returns-clause-agree : goal.returns-clause-agree
returns-clause-agree c honest k l same =
    agree_shown c.loop-event.world.replicas.items (took (world_after (length c.args.writers.now) c.args.events.now)) (returns-clause-sums c honest) k l same

pub returns-clause-same : goal.returns-clause-same
returns-clause-same c later honest k l same =
    same_shown (world_after (length c.args.writers.now) c.args.events.now) c.loop-event.world.replicas.items _ _ (shown c)
    (world_after (length c.args.writers.now) (c.args.events.now ++ later)) k l
    (c.converges.ensures.same (length c.args.writers.now) c.args.events.now later honest k l) same
