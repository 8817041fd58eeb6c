-- What contracts see of a keeper.
-- Source: this project's own.
use Rattle.shared_node.specs.Prelude.{HistoryEvent, List, ℕ}

-- the history that it accepted, the published one, and how many seats it gave out
pub record KeeperNow : Type 0 where
  pub accepted : List HistoryEvent
  pub shown : List HistoryEvent
  pub given : ℕ
