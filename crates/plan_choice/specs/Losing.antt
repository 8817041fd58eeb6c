-- Bits that are set. Only private clauses cite this.
use Rattle.std.proofs.Common.{◌≡◌}
use Rattle.plan_choice.specs.Prelude.{Bool, false, IsAmong, length, List, slice_index_or, ℕ}

-- the bits of the nodes have this value, and the others are unchanged
pub record SetsBits (old new : List Bool) (nodes : List ℕ) (value : Bool) : Type 0 where
  pub units : length new ≡ length old
  pub there : (v : ℕ) → IsAmong v nodes → slice_index_or new v false ≡ value
  pub others : (v : ℕ) → ¬ IsAmong v nodes → slice_index_or new v false ≡ slice_index_or old v false
