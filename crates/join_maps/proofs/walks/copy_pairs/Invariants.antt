use Rattle.std.proofs.Common.{◌≡◌}
use Rattle.join_maps.proofs.Prelude.{take}
use Rattle.join_maps.proofs.walks.copy_pairs.Given as goal

abbrev pub invariant-loop-pair : goal.invariant-loop-pair
invariant-loop-pair g l = l.copy.items ≡ take l.pair-index l.pairs
