-- What contracts see of a seat.
-- Source: this project's own.
use Rattle.std.proofs.Common.{◌+◌, ◌≡◌}
use mathlib.Core.List.{IsPrefix}
use Rattle.shared_node.specs.Prelude.{HistoryEvent, List, slice_get, Some, takes_of, ℕ}

-- what it has seen of the node's history, how many takes it made, and its number at the node
pub record SeatNow : Type 0 where
  pub seen : List HistoryEvent
  pub calls : ℕ
  pub number : ℕ

-- the seat counts one more take
abbrev pub CountsOneMore : SeatNow → SeatNow → Type 0
CountsOneMore old new = (new.calls ≡ old.calls + 1) × (new.number ≡ old.number)

-- the history begins with what the seat has seen, and has exactly as many takes of it as it made
abbrev pub Agrees : List HistoryEvent → SeatNow → Type 0
Agrees h s = IsPrefix s.seen h × (takes_of s.number h ≡ s.calls)

abbrev pub AllAgree : List HistoryEvent → List SeatNow → Type 0
AllAgree h seats = (k : ℕ) (s : SeatNow) → slice_get seats k ≡ Some s → Agrees h s
