-- The answer to a crowd.
-- Source: this project's own.
use Rattle.std.proofs.Common.{◌*◌, ◌<◌, ◌≡◌, ◌≤◌, ◌⊎◌}
use Rattle.script_answers.specs.{Prelude.{crowd_places, EntryMap, Err, Ok, Outcome, places_with, Seats, ℕ}, Texts.{crowd_line}}

-- 1 to 64 seats
abbrev pub AreSeats : ℕ → Type 0
AreSeats seats = (0 < seats) × (seats ≤ 64)

-- the takes are the edits of all workers, and the paths those of the store and of the workers; or the number of seats
-- isn't 1 to 64
abbrev pub RendersCrowd : ℕ → ℕ → EntryMap → Outcome → Type 0
RendersCrowd seats edits s outcome =
    (AreSeats seats × (outcome ≡ Ok (crowd_line (seats * edits) (places_with s (crowd_places seats edits))))) ⊎ ((¬ AreSeats seats) × (outcome ≡ Err Seats))
