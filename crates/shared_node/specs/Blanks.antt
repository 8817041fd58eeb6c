-- What contracts see of a blank.
-- Source: this project's own.
use Rattle.logbook.specs.Pages.{Book}
use Rattle.shared_node.specs.Prelude.{Replicated, ℕ}

-- the history log of the later node, the replica that the blank was made from, and the number of seats
pub record BlankNow : Type 0 where
  pub book : Book
  pub opening : Replicated
  pub seats : ℕ
