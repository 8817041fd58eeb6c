use Rattle.std.proofs.Common.{◌≡◌}
use Rattle.dropins.proofs.Prelude.{first_for, List, option_or, take, took_in, ℕ}
use Rattle.dropins.proofs.precedence.add_level.Given as goal

abbrev pub invariant-loop-dir : goal.invariant-loop-dir
invariant-loop-dir l = (f : List ℕ) → first_for l.found.items f ≡ option_or (first_for l.initial.found.items f) (took_in l.view l.search (take l.dir-index l.dirs) f l.level)
