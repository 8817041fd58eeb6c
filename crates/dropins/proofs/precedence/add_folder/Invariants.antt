use Rattle.std.proofs.Common.{◌≡◌}
use Rattle.dropins.proofs.Prelude.{first_for, first_said, length, List, option_or, path, said_for, take_at, ℕ}
use Rattle.dropins.proofs.precedence.add_folder.Given as goal

abbrev pub invariant-loop-placed : goal.invariant-loop-placed
invariant-loop-placed l =
    (f : List ℕ)
    → option_or (first_for l.found.items f) (first_said (said_for l.search f) l.entries)
    ≡ option_or (first_for l.initial.found.items f) (take_at l.view l.search (path l.level l.dir f))

abbrev pub decreases-loop-placed : goal.decreases-loop-placed
decreases-loop-placed l = length l.entries
