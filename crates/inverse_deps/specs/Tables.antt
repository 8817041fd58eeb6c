-- The edges of a load by index, kind by kind.
-- Source: this project's own.
use Rattle.std.proofs.Common.{◌↔◌, ◌≡◌}
use Rattle.inverse_deps.specs.Prelude.{[], AreAdjacencyOf, AreNamedSuccessors, Dependency, DepKind, is_sorted, IsAmong, IsStrictlySortedBy, IsTrue, keys_of, kinds, length, List, LoadMap, Name, name_cmp, Named, nat_cmp, neighbors, slice_index_or, ℕ}
use Rattle.inverse_deps.specs.{EdgeAdjacency.{adjacency_at, AreAdjacencyByKinds, edge_map}, Edges.{AreEdgesFrom, EdgeMap, IsEdge, place}, Indices.{count_of, name_at}}

-- adjacency lists of the edges of a kind, each in ascending order
pub record AreEdgeAdjacency (load : LoadMap) (dep : DepKind) (adjacency : List (List ℕ)) : Type 0 where
  pub successors : AreNamedSuccessors (count_of load) (name_at load) (Named (neighbors adjacency)) (IsEdge load dep)
  pub within : AreAdjacencyOf (count_of load) adjacency
  pub ascending : (u : ℕ) → IsStrictlySortedBy nat_cmp (neighbors adjacency u)

-- These are all edges of the load, by the indices of its names: such adjacency lists for each kind.
pub record IsEdgeTable (load : LoadMap) (tables : List (List (List ℕ))) : Type 0 where
  pub sorted : IsTrue (is_sorted name_cmp load.names)
  pub all : length tables ≡ length kinds
  pub each : (dep : DepKind) → AreEdgeAdjacency load dep (adjacency_at tables dep)

-- ---- words for private clauses

-- the edges from a unit, kind by kind
abbrev pub AreListsFrom : LoadMap → Name → List (List Name) → Type 0
AreListsFrom load u lists = (dep : DepKind) → AreEdgesFrom load dep u (slice_index_or lists (place dep) [])

-- what edges store: lists by name in byte order, and the same as adjacency lists
pub record AreKept (edges : EdgeMap) (tables : List (List (List ℕ))) : Type 0 where
  pub sorted : IsTrue (is_sorted name_cmp edges)
  pub edges_are : edges ≡ edge_map (keys_of edges) tables
  pub adjacency : AreAdjacencyByKinds edges tables

-- one of the dependencies is of this kind and has this index
pub record HasKind (deps : List Dependency) (dep : DepKind) (index : ℕ) : Type 0 where
  pub one : Dependency
  pub there : IsAmong one deps
  pub kind_is : one.kind ≡ dep
  pub index_is : one.index ≡ index

-- these are the indices of the dependencies of a kind
abbrev pub AreIndicesBy : List Dependency → DepKind → List ℕ → Type 0
AreIndicesBy deps dep indices = (i : ℕ) → IsAmong i indices ↔ HasKind deps dep i

-- the same for the list at an index, in ascending order
pub record IsKindList (links : List (List Dependency)) (dep : DepKind) (index : ℕ) (indices : List ℕ) : Type 0 where
  pub ascending : IsStrictlySortedBy nat_cmp indices
  pub exact : AreIndicesBy (slice_index_or links index []) dep indices
