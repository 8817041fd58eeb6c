-- The names of a load by indices: a name's index is its position in byte order, from 0.
-- Source: this project's own.
use Rattle.std.proofs.Common.{◌<◌, ◌≡◌}
use Rattle.parallel_load.specs.Prelude.{[], DependencyList, DepKind, find, IsAmong, IsListed, keys_of, length, List, LoadedUnit, Name, name_cmp, option_and_then, slice_index_or, Some, ℕ}
use Rattle.parallel_load.specs.{declared.loaded.{Dependency.{Dependency}, NameLoad.{NameLoad}}, Loads.{lists_in, LoadMap, main_in, unit_part}}

-- the name with this index
abbrev pub name_of : List (Name × NameLoad) → ℕ → Name
name_of names index = slice_index_or (keys_of names) index []

-- the name is the main name of a unit among these
abbrev pub IsUnitAmong : List (Name × NameLoad) → Name → Type 0
IsUnitAmong names name = (unit : LoadedUnit) × (option_and_then unit_part (find name_cmp name names) ≡ Some unit)

-- this is a dependency that the lists have, by the index of a unit
pub record IsDependencyOf (names : List (Name × NameLoad)) (lists : List DependencyList) (one : Dependency) : Type 0 where
  pub below : one.index < length names
  pub unit : IsUnitAmong names (name_of names one.index)
  pub listed : IsListed lists one.kind (name_of names one.index)

-- one of the dependencies has this kind and the index of this name
pub record HasIndex (names : List (Name × NameLoad)) (deps : List Dependency) (dep : DepKind) (name : Name) : Type 0 where
  pub one : Dependency
  pub there : IsAmong one deps
  pub kind_is : one.kind ≡ dep
  pub named : name_of names one.index ≡ name

-- these are exactly the dependencies that the lists have, by the indices of units
pub record AreDependenciesOf (names : List (Name × NameLoad)) (lists : List DependencyList) (deps : List Dependency) : Type 0 where
  pub each : (one : Dependency) → IsAmong one deps → IsDependencyOf names lists one
  pub all : (dep : DepKind) (name : Name) → IsListed lists dep name → HasIndex names deps dep name

-- For each name these are the dependencies of what it resolves to, by indices.
pub record AreDependencyAdjacency (names : List (Name × NameLoad)) (table : List (List Dependency)) : Type 0 where
  pub one_each : length table ≡ length names
  pub rows : (i : ℕ) (p : Name × NameLoad) → i < length names
      → AreDependenciesOf names (lists_in (slice_index_or names i p).1) (slice_index_or table i [])

-- This is the index of a name's main name, which is that of a unit of the load.
pub record IsIndexOfMain (load : LoadMap) (name : Name) (index : ℕ) : Type 0 where
  pub below : index < length load.names
  pub main_is : main_in load name ≡ Some (name_of load.names index)
  pub unit : IsUnitAmong load.names (name_of load.names index)
