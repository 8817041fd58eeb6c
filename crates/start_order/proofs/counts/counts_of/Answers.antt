use Rattle.std.proofs.Common.{◌<◌}
use Rattle.start_order.proofs.Prelude.{All, All-neighbors, length, List, subst, sym, ℕ}
use Rattle.start_order.proofs.counts.counts_of.Goals as goal

pub waiting-requires-clause-nodes : goal.waiting-requires-clause-nodes
waiting-requires-clause-nodes c =
    let P : List ℕ → Type 0 = λ r. All (λ v. v < length c.args.chosen.now) r in
    subst P (sym c.neighbors.ensures) (All-neighbors _ _ c.loop-node.node c.requires.adjacency)
