-- What a worker of a crowd has done.
-- Source: this project's own.
use Rattle.std.proofs.Common.{◌&&◌, ◌==◌, ◌≡◌, ◌≤◌}
use Rattle.crowds.specs.{Crowds.{crowd_place}, Prelude.{Absorbed, Bool, count_by, Edited, eq_by_cmp, false, HistoryEvent, List, map, Ok, Opening, place_cmp, Result, SeatNow, slice_get, Some, ℕ}}

-- the event is an edit of the worker's own file, from the seat with its number
abbrev pub is_own : ℕ → HistoryEvent → Bool
is_own worker (Opening replica) = false
is_own worker (Edited seat edit) = seat == worker && eq_by_cmp place_cmp edit.place (crowd_place worker)
is_own worker (Absorbed seat piece) = false

-- how many events are that
abbrev pub own_edits : ℕ → List HistoryEvent → ℕ
own_edits worker h = count_by (λ x. is_own worker x) h

-- the worker made `edits` takes from the seat with its number, and the seat has seen as many edits of its own file
pub record HasWorked (edits worker : ℕ) (seat : SeatNow) : Type 0 where
  pub number : seat.number ≡ worker
  pub calls : seat.calls ≡ edits
  pub own : edits ≤ own_edits worker seat.seen

-- each seat's worker has done so
abbrev pub HaveWorked : ℕ → List SeatNow → Type 0
HaveWorked edits seats = (worker : ℕ) (seat : SeatNow) → slice_get seats worker ≡ Some seat → HasWorked edits worker seat

-- no take was made from any of these seats, and the number of each is its position
abbrev pub AreFresh : List SeatNow → Type 0
AreFresh seats = (worker : ℕ) (seat : SeatNow) → slice_get seats worker ≡ Some seat → (seat.calls ≡ 0) × (seat.number ≡ worker)

-- no result is missing, and these are all
abbrev pub AreGathered : {S E : Type 0} → List (Result S E) → List S → Type 0
AreGathered came seats = came ≡ map Ok seats
