use Rattle.std.proofs.Common.{◌≡◌}
use Rattle.inverse_deps.proofs.Prelude.{map, name_at, take}
use Rattle.inverse_deps.proofs.indices.names_at.Given as goal

abbrev pub invariant-loop-index : goal.invariant-loop-index
invariant-loop-index l = l.named.items ≡ map (name_at l.loaded) (take l.index-index l.indices)
