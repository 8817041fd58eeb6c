use Rattle.std.proofs.Common.{◌≡◌}
use Rattle.delta_pieces.proofs.Prelude.{cut, Some, take}
use Rattle.delta_pieces.proofs.newer.newer_at.Given as goal

abbrev pub invariant-loop-place : goal.invariant-loop-place
invariant-loop-place l = l.newer ≡ cut l.store l.asked (Some (take l.place-index l.places))
