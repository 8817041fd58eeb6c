use Rattle.std.proofs.Common.{◌∷◌, ◌≡◌}
use Rattle.fragment_choice.proofs.names.listed.Given as goal

abbrev pub invariant-loop-other : goal.invariant-loop-other
invariant-loop-other l = l.names.items ≡ l.fn.name ∷ l.yielded
