-- The invariant of the log that has a history, and what its steps return.
-- Source: this project's own.
use Rattle.std.proofs.Common.{◌++◌, ◌==◌, ◌∷◌, ◌≡◌}
use Rattle.logbook.specs.Pages.{Book, Cell, Named, Step, View}
use Rattle.node_histories.specs.{declared.events.HistoryEvent.{HistoryEvent}, Histories.{IsLegal, opening_of, takes_in}, Prelude.{[], List, MatchBool, true, ℕ}}

-- the first word is the number of takes of the history, which is valid; a log has two words, of which the second stays
-- 0
pub record IsKept (cells : List Cell) (log : List HistoryEvent) : Type 0 where
  pub words : cells ≡ (takes_in log, true) ∷ (0, true) ∷ []
  pub legal : IsLegal (opening_of log) log

-- the first word of a log
abbrev pub head_of : Book → Named
head_of b = record { tracked = true; key = 0; book = b }

-- the event was added to all that had been seen; or the history was longer, and was seen
abbrev pub Adds : Step HistoryEvent → View HistoryEvent ℕ → ℕ → View HistoryEvent ℕ → Type 0
Adds s v found w = MatchBool (found == s.old) (w.0 ≡ v.0 ++ s.ask ∷ []) (takes_in w.0 ≡ found)

-- what was seen, and the event that is to come next
pub record TurnNow : Type 0 where
  pub seen : List HistoryEvent
  pub ask : HistoryEvent
