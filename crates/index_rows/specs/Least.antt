-- The least member of a set.
-- Source: this project's own.
use Rattle.std.proofs.Common.{◌≡◌}
use Rattle.index_rows.specs.Prelude.{Less, Ordering}

-- the node is a member of the set, and no member is less
pub record IsLeast {N : Type 0} (order : N → N → Ordering) (set : N → Type 0) (u : N) : Type 0 where
  pub member : set u
  pub least : (v : N) → set v → ¬ (order v u ≡ Less)
