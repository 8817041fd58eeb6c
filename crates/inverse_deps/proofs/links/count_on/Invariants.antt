use Rattle.std.proofs.Common.{◌≡◌}
use Rattle.inverse_deps.proofs.Prelude.{length}
use Rattle.inverse_deps.proofs.links.count_on.Given as goal

abbrev pub invariant-loop-dep : goal.invariant-loop-dep
invariant-loop-dep l = length l.counts.items ≡ length l.initial.counts.items
