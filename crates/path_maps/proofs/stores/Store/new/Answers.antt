use Rattle.path_maps.proofs.Edits.{nothing_is_empty, nothing_kept}
use Rattle.path_maps.proofs.stores.Store.new.Goals as goal

pub invariant_of-result : goal.invariant_of-result
invariant_of-result c = rw c.new.ensures.empty nothing_kept

pub returns : goal.returns
returns c = record { empty = rw c.new.ensures.empty nothing_is_empty }
