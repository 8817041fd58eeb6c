-- Footprints of the units of a load.
-- Source: this project's own.
use Rattle.std.proofs.Common.{◌↔◌, ◌≡◌}
use Rattle.parallel_load.specs.{Loads.{LoadMap, unit_in}, Prelude.{footprint, IsAmong, List, LoadedUnit, Name, Some, ℕ}}

-- these are exactly the components of the footprint of the unit with this main name
abbrev pub IsFootprintIn : LoadMap → Name → List (List ℕ) → Type 0
IsFootprintIn load name parts = (unit : LoadedUnit) → unit_in load name ≡ Some unit → (part : List ℕ) → IsAmong part parts ↔ IsAmong part (footprint name unit.names)
