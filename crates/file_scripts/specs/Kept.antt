-- What is kept of a script's node in a log.
-- Source: this project's own.
use Rattle.std.proofs.Common.{◌≡◌}
use Rattle.std.specs.Prelude.{codes, List, ℕ}
use Rattle.edit_sums.specs.Sums.{EntryMap, IsStoreBelow, sum_of}
use Rattle.edit_log.specs.declared.logs.LogRow.{LogRow}
use Rattle.edit_log.specs.Logs.{edits_in, LeavesJust}
use Rattle.durable_node.specs.Nodes.{Node}

-- the name of the node in scripts
abbrev pub here : List ℕ
here = codes "here"

-- The node holds just this store; and if the files are honest, its log comes to the store, and a crash leaves what stands in
-- the log.
pub record IsHeldIn {L : Type 0} (is_honest : L → Type 0) (held : L → List LogRow)
    (may_leave : L → List LogRow → Type 0) (node : Node L) (s : EntryMap) : Type 0 where
  pub store : node.replica.store ≡ s
  pub sum : is_honest node.log → sum_of (edits_in (held node.log)) ≡ s
  pub lasts : is_honest node.log → LeavesJust (held node.log) (may_leave node.log)

-- The node holds at least this store; and if the files are honest, so does what the next open finds, whatever crashes now.
pub record IsFoundIn {L : Type 0} (is_honest : L → Type 0) (may_leave : L → List LogRow → Type 0) (node : Node L)
    (s : EntryMap) : Type 0 where
  pub store : IsStoreBelow s node.replica.store
  pub left : is_honest node.log → (rows : List LogRow) → may_leave node.log rows → IsStoreBelow s (sum_of (edits_in rows))
