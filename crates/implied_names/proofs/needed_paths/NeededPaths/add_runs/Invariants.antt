use Rattle.std.proofs.Common.{◌++◌, ◌≡◌}
use Rattle.implied_names.proofs.Prelude.{as_run, map, paths_in}
use Rattle.implied_names.proofs.needed_paths.NeededPaths.add_runs.Given as goal

abbrev pub invariant-loop-text : goal.invariant-loop-text
invariant-loop-text l = l.self ≡ l.initial.self ++ map as_run (paths_in (map (λ text. text.now) l.yielded))
