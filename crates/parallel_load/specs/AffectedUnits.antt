-- Affected units: those whose footprint has the first component of a changed path. Definitions for private clauses.
-- Source: this project's own.
use Rattle.std.proofs.Common.{◌<◌, ◌≡◌, ◌≤◌}
use Rattle.parallel_load.specs.{declared.loaded.NameLoad.{NameLoad, TheVariants.{Unit as OfUnit}}, Prelude.{All, footprint, IsAmong, length, List, LoadedUnit, Name, slice_index_or, ℕ}, SearchPrefixes.{EndsWith}}

-- the name is a unit's main name, and the part is in that unit's footprint
pub record IsInFootprint (part : List ℕ) (p : Name × NameLoad) : Type 0 where
  pub unit : LoadedUnit
  pub load_is : p.1 ≡ OfUnit unit
  pub there : IsAmong part (footprint p.0 unit.names)

-- if the footprint of the unit with this index has the part, the index is among these
abbrev pub IsNoted : List (Name × NameLoad) → List ℕ → List ℕ → ℕ → Type 0
IsNoted names affected part index = (p : Name × NameLoad) → IsInFootprint part (slice_index_or names index p) → IsAmong index affected

-- the same for all indices from the first up to the second whose names have this ending
abbrev pub AreNoted : List (Name × NameLoad) → List ℕ → List ℕ → List ℕ → ℕ → ℕ → Type 0
AreNoted names affected part ending from to = (i : ℕ) (d : Name × NameLoad) → from ≤ i → i < to → EndsWith ending (slice_index_or names i d).0 → IsNoted names affected part i

-- the same for the units of the secondary names in such a range that have this ending
abbrev pub AreOwnersNoted : List (Name × NameLoad) → List (Name × ℕ) → List ℕ → List ℕ → List ℕ → ℕ → ℕ → Type 0
AreOwnersNoted names second affected part ending from to =
    (k : ℕ) (d : Name × ℕ) → from ≤ k → k < to → EndsWith ending (slice_index_or second k d).0
    → IsNoted names affected part (slice_index_or second k d).1

-- the same for all indices
abbrev pub AreAffectedBy : List (Name × NameLoad) → List ℕ → List ℕ → Type 0
AreAffectedBy names affected part = (i : ℕ) → i < length names → IsNoted names affected part i

-- the same for each of several parts
abbrev pub AreAffected : List (List ℕ) → List (Name × NameLoad) → List ℕ → Type 0
AreAffected parts names affected = (part : List ℕ) → IsAmong part parts → AreAffectedBy names affected part

-- the new list has all of the old one, and stays below a limit if the old one did
pub record GrowsWithin (limit : ℕ) (old new : List ℕ) : Type 0 where
  pub kept : (i : ℕ) → IsAmong i old → IsAmong i new
  pub within : All (λ i. i < limit) old → All (λ i. i < limit) new
