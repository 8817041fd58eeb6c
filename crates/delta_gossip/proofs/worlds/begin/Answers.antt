use Rattle.std.proofs.Common.{◌≡◌}
use Rattle.delta_gossip.proofs.{Prelude.{ap, arith, length, replicate, ℕ, ◌∙◌}, Runs.{blank_shown}}
use Rattle.std.specs.FinMap as finmap
use Rattle.delta_gossip.proofs.worlds.begin.Goals as goal

pub returns-clause-model : goal.returns-clause-model
returns-clause-model c =
    let all : c.loop-writer.writer-index ≡ length c.args.writers.now = omega arith in
    rw (c.new-2.ensures.items, c.new-3.ensures.items) (blank_shown (length c.args.writers.now) c.loop-writer.replicas.items (c.loop-writer.invariant.1 ∙ ap (λ (n : ℕ). replicate n finmap.empty) all))
