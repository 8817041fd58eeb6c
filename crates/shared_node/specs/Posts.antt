-- What contracts see of a node's publishing side: the published history, and the one that is due.
-- Source: this project's own.
use Rattle.shared_node.specs.Prelude.{HistoryEvent, List}

pub record PostNow : Type 0 where
  pub shown : List HistoryEvent
  pub due : List HistoryEvent
