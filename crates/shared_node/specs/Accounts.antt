-- What contracts see of an account: the takes, and the number of seats that it counts for.
-- Source: this project's own.
use Rattle.std.proofs.Common.{◌++◌, ◌==◌, ◌∷◌, ◌≡◌}
use Rattle.shared_node.specs.Prelude.{[], HistoryEvent, is_take_of, List, ℕ}

pub record AccountNow : Type 0 where
  pub takes : List HistoryEvent
  pub seats : ℕ

-- the second history is the first with one more take, by this seat
abbrev pub IsTakenAfter : List HistoryEvent → ℕ → List HistoryEvent → Type 0
IsTakenAfter before seat h = (x : HistoryEvent) × (h ≡ before ++ x ∷ []) × ((s : ℕ) → is_take_of s x ≡ (seat == s))
