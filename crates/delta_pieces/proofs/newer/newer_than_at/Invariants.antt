use Rattle.std.proofs.Common.{◌≡◌}
use Rattle.delta_pieces.proofs.Prelude.{cut, digest_of, Some, take}
use Rattle.delta_pieces.proofs.newer.newer_than_at.Given as goal

abbrev pub invariant-loop-place : goal.invariant-loop-place
invariant-loop-place l = l.newer ≡ cut l.store (digest_of l.other) (Some (take l.place-index l.places))
