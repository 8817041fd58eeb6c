use Rattle.std.proofs.Common.{◌≡◌}
use Rattle.join_maps.proofs.Prelude.{take}
use Rattle.join_maps.proofs.walks.copy_chunks.Given as goal

abbrev pub invariant-loop-at : goal.invariant-loop-at
invariant-loop-at g l = l.copy ≡ (l.chunks.0, take l.at l.chunks.1)
