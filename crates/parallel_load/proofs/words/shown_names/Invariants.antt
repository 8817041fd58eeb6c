use Rattle.std.proofs.Common.{◌≡◌, ◌≤◌}
use Rattle.parallel_load.proofs.Rows.{names_below}
use Rattle.parallel_load.proofs.words.shown_names.Given as goal

abbrev pub invariant-loop-level : goal.invariant-loop-level
invariant-loop-level l = (l.names.items ≡ names_below l.view l.level) × (l.level ≤ 8)
