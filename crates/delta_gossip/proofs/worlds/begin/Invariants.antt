use Rattle.std.proofs.Common.{◌≡◌}
use Rattle.delta_gossip.proofs.Prelude.{map, replicate, take}
use Rattle.std.specs.FinMap as finmap
use Rattle.delta_gossip.proofs.worlds.begin.Given as goal

abbrev pub invariant-loop-writer : goal.invariant-loop-writer
invariant-loop-writer l =
    (map (λ r. r.writer) l.replicas.items ≡ take l.writer-index l.writers) × (map (λ r. r.store) l.replicas.items ≡ replicate l.writer-index finmap.empty)
