-- The dependencies of each unit and those on it, by index.
-- Source: this project's own.
use Rattle.std.proofs.Common.{◌<◌, ◌↔◌, ◌≡◌, ◌⊎◌}
use Rattle.inverse_deps.specs.Prelude.{[], All, AreNames, Dependency, DepKind, Global, inverse, is_sorted, IsAmong, IsTrue, length, List, LoadMap, map, Name, name_cmp, slice_index_or, Vec, ℕ}
use Rattle.inverse_deps.specs.{Edges.{IsEdge}, Indices.{count_of, name_at}, Tables.{HasKind}}

-- the rows as lists
abbrev pub links_in : List (Vec Dependency Global) → List (List Dependency)
links_in adjacency = map (λ neighbors. neighbors.items) adjacency

-- the unit with the index `from` has a dependency on this index, and this is its reverse
pub record IsTransposed (deps : List Dependency) (from index : ℕ) (one : Dependency) : Type 0 where
  pub dep : Dependency
  pub there : IsAmong dep deps
  pub on : dep.index ≡ index
  pub kind_is : one.kind ≡ inverse dep.kind
  pub index_is : one.index ≡ from

-- each list has what it had, and the reverse of those dependencies of the unit with the index `from` that are on its
-- index
pub record AreTransposedIn (old : List (List Dependency)) (deps : List Dependency) (from : ℕ)
    (adjacency : List (List Dependency)) : Type 0 where
  pub units : length adjacency ≡ length old
  pub just : (index : ℕ) (one : Dependency) → IsAmong one (slice_index_or adjacency index [])
      ↔ (IsAmong one (slice_index_or old index []) ⊎ IsTransposed deps from index one)

-- a dependency in one of the first `count` rows is on the index, and this is its reverse
pub record IsFound (rows : List (List Dependency)) (count index : ℕ) (one : Dependency) : Type 0 where
  pub from : ℕ
  pub below : from < count
  pub transposed : IsTransposed (slice_index_or rows from []) from index one

-- these are a row's own dependencies, and what was found in the first `count` rows
pub record AreFound (rows : List (List Dependency)) (own : List Dependency) (count index : ℕ) (links : List Dependency) : Type 0 where
  pub just : (one : Dependency) → IsAmong one links ↔ (IsAmong one own ⊎ IsFound rows count index one)

-- each list has the dependencies of its row, and what was found in the first `count` rows
pub record AreFoundIn (rows : List (List Dependency)) (count : ℕ) (adjacency : List (List Dependency)) : Type 0 where
  pub units : length adjacency ≡ length rows
  pub each : (index : ℕ) → AreFound rows (slice_index_or rows index []) count index (slice_index_or adjacency index [])

-- these are the edges from a unit: each has the kind of the edge, and the index of the unit to which it leads
pub record AreLinksOf (load : LoadMap) (u : Name) (links : List Dependency) : Type 0 where
  pub within : All (λ one. one.index < count_of load) links
  pub successors : (dep : DepKind) → AreNames (count_of load) (name_at load) (HasKind links dep) (IsEdge load dep u)

-- For each name of the load, whose names are in byte order, these are by its index the edges from it.
pub record AreLinks (load : LoadMap) (adjacency : List (List Dependency)) : Type 0 where
  pub sorted : IsTrue (is_sorted name_cmp load.names)
  pub one_each : length adjacency ≡ count_of load
  pub each : (index : ℕ) → index < count_of load → AreLinksOf load (name_at load index) (slice_index_or adjacency index [])
