use Rattle.std.proofs.Common.{◌≡◌}
use Rattle.implied_names.proofs.Prelude.{flat_map, map, mounts_on}
use Rattle.implied_names.proofs.needed_paths.NeededPaths.into_mounts.Given as goal

abbrev pub invariant-loop-path : goal.invariant-loop-path
invariant-loop-path l = l.names.items ≡ flat_map mounts_on (map (λ path. path.items) l.yielded)
