-- Bit sets by a test on units: words for private clauses.
-- Source: this project's own.
use Rattle.std.proofs.Common.{◌<◌, ◌≡◌}
use Rattle.start_plan.specs.Prelude.{Bool, count_of, length, List, LoadedUnit, LoadMap, name_at, Option, slice_index_or, unit_in, ℕ}

-- a bit for each name: what the test says of its unit
pub record AreBitsBy (load : LoadMap) (test : Option LoadedUnit → Bool) (bits : List Bool) : Type 0 where
  pub units : length bits ≡ count_of load
  pub each : (i : ℕ) (d : Bool) → i < count_of load → slice_index_or bits i d ≡ test (unit_in load (name_at load i))
