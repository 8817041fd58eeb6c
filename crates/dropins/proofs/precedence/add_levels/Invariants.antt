use Rattle.std.proofs.Common.{◌≡◌}
use Rattle.dropins.proofs.Prelude.{first_for, first_said, levels, List, option_or, take, took_in, ℕ}
use Rattle.dropins.proofs.precedence.add_levels.Given as goal

abbrev pub invariant-loop-level : goal.invariant-loop-level
invariant-loop-level l = (f : List ℕ) → first_for l.found.items f ≡ option_or (first_for l.initial.found.items f) (first_said (took_in l.view l.search l.dirs f) (take l.level levels))
