use Rattle.std.proofs.Common.{◌≡◌}
use Rattle.delta_gossip.proofs.Prelude.{IsWorld, length, map, take, world_after}
use Rattle.delta_gossip.proofs.worlds.run_world.Given as goal

abbrev pub invariant-loop-event : goal.invariant-loop-event
invariant-loop-event l =
    (map (λ r. r.writer) l.world.replicas.items ≡ l.fn.writers) × IsWorld (world_after (length l.fn.writers) (take l.event-index l.events)) l.world
