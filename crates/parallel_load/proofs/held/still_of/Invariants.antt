use Rattle.std.proofs.Common.{◌≡◌}
use Rattle.parallel_load.proofs.Prelude.{All, IfSome, IsStill, keys_of, take}
use Rattle.parallel_load.proofs.held.still_of.Given as goal

abbrev pub invariant-loop-index : goal.invariant-loop-index
invariant-loop-index l =
    (keys_of l.still.items ≡ keys_of (take l.index l.names))
    × All (λ p. IfSome p.1 (IsStill l.affected l.names l.named p.0)) l.still.items
