use Rattle.std.proofs.Common.{◌≡◌}
use Rattle.path_maps.proofs.Prelude.{at_fleet, map, sum_of, take}
use Rattle.path_maps.proofs.stores.Store.from_flat.Given as goal

abbrev pub invariant-loop-edit : goal.invariant-loop-edit
invariant-loop-edit l = l.store ≡ sum_of (map at_fleet (take l.edit-index l.edits))
