use Rattle.std.proofs.Common.{◌≡◌}
use Rattle.unit_graph.proofs.Prelude.{map, name_at, take}
use Rattle.unit_graph.proofs.indexed_graph.named_distances.Given as goal

abbrev pub invariant-loop-pair : goal.invariant-loop-pair
invariant-loop-pair l = l.named.items ≡ map (λ p. (p.0, name_at l.loaded p.1)) (take l.pair-index l.pairs)
