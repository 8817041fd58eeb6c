use Rattle.std.proofs.Common.{◌++◌, ◌≡◌}
use Rattle.implied_names.proofs.Prelude.{directory_in, filter_map, map}
use Rattle.implied_names.proofs.needed_paths.NeededPaths.add_directories.Given as goal

abbrev pub invariant-loop-word : goal.invariant-loop-word
invariant-loop-word l = l.self ≡ l.initial.self ++ filter_map (directory_in l.top) (map (λ word. word.now) l.yielded)
