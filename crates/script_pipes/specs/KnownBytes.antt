-- How the remaining bytes of a source and the contents of a sink change, if they are known.
-- Source: this project's own.
use Rattle.std.proofs.Common.{◌<◌, ◌≡◌}
use Rattle.script_pipes.specs.Prelude.{Appends, Consumes, length, List, None, Option, Some, take, ℕ, ⊤}

-- These are all of the known bytes.
abbrev pub AreAll : Option (List ℕ) → List ℕ → Type 0
AreAll None bytes = ⊤
AreAll (Some known) bytes = bytes ≡ known

-- There are more known bytes than the limit.
abbrev pub IsOver : ℕ → Option (List ℕ) → Type 0
IsOver limit None = ⊤
IsOver limit (Some known) = limit < length known

-- the known bytes lose a prefix
abbrev pub ConsumesPrefix : Option (List ℕ) → Option (List ℕ) → Type 0
ConsumesPrefix old new = (bytes : List ℕ) × Consumes old new bytes

-- the known bytes grow by a prefix of these bytes, which may be empty or everything
abbrev pub AppendsPrefix : Option (List ℕ) → Option (List ℕ) → List ℕ → Type 0
AppendsPrefix old new bytes = (n : ℕ) × Appends old new (take n bytes)
