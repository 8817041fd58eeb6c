-- Counts of failed calls, and whether a call failed between two counts.
-- Source: this project's own.
use Rattle.std.proofs.Common.{if◌then◌else◌, ◌+◌, ◌<◌, ◌==◌}
use Rattle.script_pipes.specs.Prelude.{Bool, Err, false, nat_lt, Ok, Result, true, ℕ}

-- The count plus one if the test holds. It saturates at the greatest 64-bit number.
abbrev pub count_with : Bool → ℕ → ℕ
count_with true count = if nat_lt count 18446744073709551615 then count + 1 else count
count_with false count = count

-- A call failed between an old count and a new one. If the count was saturated, nothing is claimed.
abbrev pub FailedSince : ℕ → ℕ → Type 0
FailedSince old new = old < 18446744073709551615 → old < new

-- a write failed or accepted no byte
abbrev pub is_refusal : {E : Type 0} → Result ℕ E → Bool
is_refusal (Ok n) = n == 0
is_refusal (Err e) = true
