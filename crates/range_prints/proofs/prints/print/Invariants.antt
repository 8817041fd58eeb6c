use Rattle.std.proofs.Common.{take, ◌≡◌}
use Rattle.range_prints.specs.Prints.{print}
use Rattle.range_prints.proofs.prints.print.Given as goal

abbrev pub invariant-loop-version : goal.invariant-loop-version
invariant-loop-version l = l.sum ≡ print l.seed (take l.version-index l.versions)
