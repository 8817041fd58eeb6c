use Rattle.std.proofs.Common.{◌+◌, ◌<◌, ◌≡◌}
use Rattle.host_trees.proofs.Prelude.{List, None, path_at, viewed_at, ℕ}
use Rattle.host_trees.proofs.own_folders.owns_nothing_at.Given as goal

abbrev pub invariant-loop-rank : goal.invariant-loop-rank
invariant-loop-rank l = (r : ℕ) → r < l.rank → (file : List ℕ) → viewed_at l.view (path_at (r + r) l.dir file) ≡ None
