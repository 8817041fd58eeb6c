use Rattle.std.proofs.Common.{◌≡◌}
use Rattle.path_maps.proofs.Prelude.{sum_of, take}
use Rattle.path_maps.proofs.stores.Store.from_edits.Given as goal

abbrev pub invariant-loop-edit : goal.invariant-loop-edit
invariant-loop-edit l = l.store ≡ sum_of (take l.edit-index l.edits)
