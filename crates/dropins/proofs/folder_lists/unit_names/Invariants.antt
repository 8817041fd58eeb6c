use Rattle.std.proofs.Common.{◌≡◌}
use Rattle.dropins.proofs.Prelude.{entry_name, filter, is_name, map, take}
use Rattle.dropins.proofs.folder_lists.unit_names.Given as goal

abbrev pub invariant-loop-placed : goal.invariant-loop-placed
invariant-loop-placed l = l.units.items ≡ filter is_name (map entry_name (take l.placed-index l.taken))
