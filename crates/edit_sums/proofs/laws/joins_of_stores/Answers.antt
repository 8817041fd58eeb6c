use Rattle.edit_sums.proofs.Prelude.{join-least, join-left, join-right, join_assoc, join_comm, join_idem, store_below_antisym, store_below_refl, store_below_trans}
use Rattle.edit_sums.proofs.laws.joins_of_stores.Goals as goal

pub returns : goal.returns
returns c = record { reflexive = store_below_refl; transitive = store_below_trans; antisymmetric = store_below_antisym; left = join-left; right = join-right; least = join-least; commutative = join_comm; associative = join_assoc; idempotent = join_idem }
