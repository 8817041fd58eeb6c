-- Why there is no blank.
-- Source: this project's own.
use Rattle.std.proofs.Common.{◌<◌, ◌≡◌, ◌≤◌, ◌⊎◌}
use Rattle.shared_node.specs.{declared.blank.BlankFault.{BlankFault, TheVariants.{Memory, Seats}}, Prelude.{Replicated, ℕ}}

-- the number of seats isn't 1 to 64; or it is, and the replica is returned
abbrev pub AtBlankFault : Replicated → ℕ → BlankFault → Type 0
AtBlankFault replica seats Seats = (seats ≡ 0) ⊎ (64 < seats)
AtBlankFault replica seats (Memory back) = (back ≡ replica) × (0 < seats) × (seats ≤ 64)
