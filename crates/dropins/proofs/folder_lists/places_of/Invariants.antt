use Rattle.std.proofs.Common.{◌≡◌}
use Rattle.dropins.proofs.Prelude.{entry_place, map, take}
use Rattle.dropins.proofs.folder_lists.places_of.Given as goal

abbrev pub invariant-loop-placed : goal.invariant-loop-placed
invariant-loop-placed l = l.places.items ≡ map (entry_place l.view) (take l.placed-index l.entries)
