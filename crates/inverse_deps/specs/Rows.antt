-- Rows of dependencies by index: for each name of a load those of its unit.
-- Source: this project's own.
use Rattle.std.proofs.Common.{◌<◌, ◌↔◌, ◌≡◌, ◌⊎◌}
use Rattle.inverse_deps.specs.Prelude.{[], AreNamedSuccessors, Dependency, DepKind, is_sorted, IsAmong, IsTrue, length, List, LoadMap, Name, name_cmp, slice_index_or, ℕ}
use Rattle.inverse_deps.specs.{Indices.{count_of, name_at}, Tables.{HasKind}}

-- For each name of the load, whose names are in byte order, these are the dependencies of its unit by this relation, by
-- indices.
pub record AreRowsBy (load : LoadMap) (leads : DepKind → Name → Name → Type 0) (rows : List (List Dependency)) : Type 0 where
  pub sorted : IsTrue (is_sorted name_cmp load.names)
  pub one_each : length rows ≡ count_of load
  pub named : (dep : DepKind)
      → AreNamedSuccessors (count_of load) (name_at load) (λ i j. HasKind (slice_index_or rows i []) dep j) (leads dep)

-- all dependencies in the rows are on indices below this number
pub record AreWithin (count : ℕ) (rows : List (List Dependency)) : Type 0 where
  pub each : (index : ℕ) (one : Dependency) → IsAmong one (slice_index_or rows index []) → one.index < count

-- the row has what another has, and those that are added
pub record HasAdded (old : List Dependency) (added : Dependency → Type 0) (row : List Dependency) : Type 0 where
  pub just : (one : Dependency) → IsAmong one row ↔ (IsAmong one old ⊎ added one)
