-- The secondary names of a load's units: definitions for private clauses.
-- Source: systemd.unit(5), "Description"; the list of them is this project's own.
use Rattle.std.proofs.Common.{◌<◌, ◌≡◌, ◌⊎◌}
use Rattle.parallel_load.specs.{declared.loaded.NameLoad.{NameLoad, TheVariants.{Unit as OfUnit}}, Prelude.{All, IsAmong, IsName, length, List, LoadedUnit, Name, slice_index_or, ℕ}}

-- each of a unit's names is valid, and is its main name or in this list with its index
pub record HasSecondaryNames (second : List (Name × ℕ)) (index : ℕ) (name : Name) (names : List Name) : Type 0 where
  pub own : IsName name
  pub well_formed : All IsName names
  pub listed : (m : Name) → IsAmong m names → (m ≡ name) ⊎ IsAmong {X = Name × ℕ} (m, index) second

-- the same for what a name resolves to, if that is a unit
abbrev pub HasThese : List (Name × ℕ) → ℕ → Name × NameLoad → Type 0
HasThese second index p = (unit : LoadedUnit) → p.1 ≡ OfUnit unit → HasSecondaryNames second index p.0 unit.names

-- This list has the secondary names of all units, with the indices of the units.
pub record AreSecondaryNames (names : List (Name × NameLoad)) (second : List (Name × ℕ)) : Type 0 where
  pub within : All (λ p. p.1 < length names) second
  pub each : (i : ℕ) (p : Name × NameLoad) → i < length names → HasThese second i (slice_index_or names i p)

-- appends the names of one unit, without its main name
pub record AddsNames (index : ℕ) (name : Name) (names : List Name) (old new : List (Name × ℕ)) : Type 0 where
  pub has : HasSecondaryNames new index name names
  pub kept : (p : Name × ℕ) → IsAmong p old → IsAmong p new
  pub added : (p : Name × ℕ) → IsAmong p new → IsAmong p old ⊎ (p.1 ≡ index)
