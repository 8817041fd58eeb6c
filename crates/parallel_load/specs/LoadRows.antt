-- The rows of a load: what it caches for each name. Definitions for private clauses.
-- Source: this project's own.
use Rattle.std.proofs.Common.{◌<◌, ◌∷◌, ◌≡◌, ◌≤◌, ◌⊎◌}
use Rattle.parallel_load.specs.Prelude.{[], All, AreNames, DependencyList, HostViewMap, is_sorted, IsAmong, IsTrue, IsUnit, length, List, LoadedUnit, main, Name, name_cmp, slice_index_or, ℕ}
use Rattle.parallel_load.specs.{declared.{loaded.{Dependency.{Dependency}, NameLoad.{NameLoad, TheVariants.{Unit as OfUnit}}}, mains.Normalized.{Normalized}}, Indexing.{AreIndexed, HasMainUnit}, Indices.{AreDependencyAdjacency}, Loads.{with_lists}, Normalized.{load_normalized, name_indices, name_lists, name_loads, normalized_name}, Refreshes.{IsMissed}}

-- the row's name with what was loaded for it, before names were replaced by main names
abbrev pub row_alone : Normalized → Name × NameLoad
row_alone row = (row.name, with_lists row.load row.lists)

-- the row's main names and indices are those by this table
abbrev pub IsNormalizedRow : List (Name × ℕ) → Normalized → Type 0
IsNormalizedRow mains row = row ≡ normalized_name mains (row_alone row)

-- these are the rows of names in order, with the indices of their main names
pub record AreRows (names : List (Name × NameLoad)) (named : List (List DependencyList)) (mains : List (Name × ℕ))
    (rows : List Normalized) : Type 0 where
  pub names_are : names ≡ name_loads rows
  pub named_are : named ≡ name_lists rows
  pub indexed : AreIndexed names names mains
  pub normalized : All (IsNormalizedRow mains) rows
  pub few : length names ≤ 4096

-- What a load caches: its names in byte order, dependencies by indices, and what rows are made of.
pub record IsKept (names : List (Name × NameLoad)) (named : List (List DependencyList)) (table : List (List Dependency))
    (mains : List (Name × ℕ)) : Type 0 where
  pub all : List Normalized
  pub are_rows : AreRows names named mains all
  pub table_is : table ≡ name_indices all
  pub sorted : IsTrue (is_sorted name_cmp names)
  pub mains_are : All (HasMainUnit names) names
  pub rows : AreDependencyAdjacency names table

-- ---- what names resolve to, where units are read again

-- if a name has a unit, it is the unit's main name, and the unit has its names
abbrev pub IsOwnUnit : HostViewMap → Name × NameLoad → Type 0
IsOwnUnit t p = (unit : LoadedUnit) → p.1 ≡ OfUnit unit → (main t p.0 ≡ p.0) × AreNames t p.0 unit.names

-- a unit that was read again and names what it named before
pub record IsReadAgain (t : HostViewMap) (mains : List (Name × ℕ)) (old : Name × NameLoad) (lists : List DependencyList)
    (new : NameLoad) : Type 0 where
  pub was : LoadedUnit
  pub load_is : old.1 ≡ OfUnit was
  pub unit : LoadedUnit
  pub is_unit : IsUnit t old.0 unit
  pub names_stay : unit.deps ≡ lists
  pub is : new ≡ load_normalized mains (OfUnit unit)

-- what the name resolves to stays, since none of these folders affects it, or its unit was read again
abbrev pub IsLoadAgain : HostViewMap → List (List ℕ) → List (Name × ℕ) → Name × NameLoad → List DependencyList → NameLoad → Type 0
IsLoadAgain t folders mains old lists new = ((new ≡ old.1) × IsMissed folders old.0 old.1) ⊎ IsReadAgain t mains old lists new

-- a unit with one of these indices was read again; every other name resolves to what it did
abbrev pub IsReadOrLeft : HostViewMap → List (Name × ℕ) → List ℕ → ℕ → Name × NameLoad → List DependencyList → Name × NameLoad → Type 0
IsReadOrLeft t mains affected i old lists new = (new.0 ≡ old.0) × (((new.1 ≡ old.1) × ¬ IsAmong i affected) ⊎ IsReadAgain t mains old lists new.1)

-- the same for all names, by their indices
abbrev pub AreReadOrLeft : HostViewMap → List (Name × ℕ) → List ℕ → List (Name × NameLoad) → List (List DependencyList)
    → List (Name × NameLoad) → Type 0
AreReadOrLeft t mains affected names named news =
    (i : ℕ) (p : Name × NameLoad) → i < length names
    → IsReadOrLeft t mains affected i (slice_index_or names i p) (slice_index_or named i [])
    (slice_index_or news i p)

-- each name, with its lists, resolves to what it did, or its unit was read again
abbrev pub AreLoadsAgain : HostViewMap → List (List ℕ) → List (Name × ℕ) → List (Name × NameLoad)
    → List (List DependencyList) → List (Name × NameLoad) → Type 0
AreLoadsAgain t folders mains [] named [] = Unit {0}
AreLoadsAgain t folders mains [] named (new ∷ news) = ⊥
AreLoadsAgain t folders mains (old ∷ olds) named [] = ⊥
AreLoadsAgain t folders mains (old ∷ olds) [] (new ∷ news) = ⊥
AreLoadsAgain t folders mains (old ∷ olds) (lists ∷ named) (new ∷ news) =
    (new.0 ≡ old.0) × IsLoadAgain t folders mains old lists new.1 × AreLoadsAgain t folders mains olds named news
