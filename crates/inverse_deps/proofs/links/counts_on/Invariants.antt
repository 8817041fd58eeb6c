use Rattle.std.proofs.Common.{◌≡◌}
use Rattle.inverse_deps.proofs.Prelude.{length}
use Rattle.inverse_deps.proofs.links.counts_on.Given as goal

abbrev pub invariant-loop-deps : goal.invariant-loop-deps
invariant-loop-deps l = length l.counts.items ≡ length l.rows
