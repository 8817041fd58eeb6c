use Rattle.std.proofs.Common.{◌++◌, ◌≡◌}
use Rattle.dropins.proofs.Prelude.{unmasked}
use Rattle.dropins.proofs.precedence.unmasked.Given as goal

abbrev pub invariant-loop-take : goal.invariant-loop-take
invariant-loop-take l = l.taken.items ++ unmasked l.take-iterator ≡ unmasked l.fn.takes.entries
