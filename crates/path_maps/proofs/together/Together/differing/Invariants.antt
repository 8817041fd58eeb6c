use Rattle.std.proofs.Common.{◌++◌, ◌≡◌}
use Rattle.path_maps.proofs.Prelude.{differing, length}
use Rattle.path_maps.proofs.together.Together.differing.Given as goal

abbrev pub invariant-loop-shown : goal.invariant-loop-shown
invariant-loop-shown l = l.places.items ++ differing l.self ≡ differing l.fn.self

abbrev pub decreases-loop-shown : goal.decreases-loop-shown
decreases-loop-shown l = length l.self
