use Rattle.std.proofs.Common.{◌++◌, ◌≡◌}
use Rattle.implied_names.proofs.Prelude.{codes, cuts, drop, filter, is_name, map, mounts_on, take, unit_at}
use Rattle.implied_names.proofs.paths.add_mounts.Given as goal

-- with what is left of the path, the names are those of the whole path
abbrev pub invariant-loop-index : goal.invariant-loop-index
invariant-loop-index l = l.names.items ++ filter is_name (map (unit_at (codes "mount")) (cuts (take l.index l.path) (drop l.index l.path))) ≡ l.fn.names.items ++ mounts_on l.path
