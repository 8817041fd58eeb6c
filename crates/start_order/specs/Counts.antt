-- How many chosen nodes each node still waits for. Only private clauses cite these.
use Rattle.std.proofs.Common.{◌&&◌, ◌+◌, ◌↔◌, ◌∷◌, ◌≡◌, ◌≤◌, ◌⊎◌}
use Rattle.start_order.specs.Prelude.{[], Bool, cond, false, IsAmong, IsMember, length, List, not, slice_index, slice_index_or, suc, times, ℕ}

-- the node is chosen and isn't started yet
abbrev pub waits : List Bool → List Bool → ℕ → Bool
waits chosen standing node = slice_index_or chosen node false && not (slice_index_or standing node false)

-- how many chosen nodes of a list aren't started yet
abbrev pub waiting : List Bool → List Bool → List ℕ → ℕ
waiting chosen standing [] = 0
waiting chosen standing (x ∷ xs) = cond (waits chosen standing x) (suc (waiting chosen standing xs)) (waiting chosen standing xs)

-- the counts of the nodes in a list were decremented, and the chosen nodes whose counts became 0 were added to the keys
pub record IsLowered (chosen : List Bool) (neighbors old new had has : List ℕ) : Type 0 where
  pub units : length new ≡ length old
  pub counts : (v : ℕ) → slice_index new v + times v neighbors ≡ slice_index old v
  pub keys : (v : ℕ) → IsAmong v has ↔ (IsAmong v had ⊎ (IsMember chosen v × IsAmong v neighbors × (slice_index new v ≡ 0)))

-- the node is a member of the list, and no member is less
abbrev pub IsLeastIn : List ℕ → ℕ → Type 0
IsLeastIn nodes u = IsAmong u nodes × ((v : ℕ) → IsAmong v nodes → u ≤ v)
