use Rattle.std.proofs.Common.{◌<◌, ◌≡◌}
use Rattle.host_trees.proofs.Prelude.{List, OwnsNothingAt, slice_get, Some, ℕ}
use Rattle.host_trees.proofs.own_folders.owns_nothing_in.Given as goal

abbrev pub invariant-loop-i : goal.invariant-loop-i
invariant-loop-i l = (j : ℕ) (folder : List ℕ) → j < l.i → slice_get l.dirs j ≡ Some folder → OwnsNothingAt l.view folder
