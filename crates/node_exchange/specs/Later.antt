-- What an exchange leaves of a node.
-- Source: this project's own.
use Rattle.std.proofs.Common.{◌≡◌, ◌⊎◌}
use Rattle.std.specs.Prelude.{List}
use Rattle.edit_sums.specs.Sums.{IsStoreBelow, sum_of}
use Rattle.edit_log.specs.declared.logs.{LogHead.{LogHead}, LogRow.{LogRow}}
use Rattle.edit_log.specs.Logs.{edits_in}
use Rattle.durable_node.specs.Nodes.{Node}

-- the same node, later: it holds all that it held, and what a crash leaves could be left before, or comes to all that it held
pub record IsLater {L : Type 0} (is_honest : L → Type 0) (head : L → LogHead) (may_leave : L → List LogRow → Type 0)
    (old new : Node L) : Type 0 where
  pub kept : IsStoreBelow old.replica.store new.replica.store
  pub writer : new.replica.writer ≡ old.replica.writer
  pub heads : head new.log ≡ head old.log
  pub honest : is_honest new.log → is_honest old.log
  pub crash : is_honest new.log → (left : List LogRow) → may_leave new.log left
      → may_leave old.log left ⊎ IsStoreBelow old.replica.store (sum_of (edits_in left))
