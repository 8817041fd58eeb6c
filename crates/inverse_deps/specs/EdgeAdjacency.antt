-- Edges by index: names are indexed in byte order from 0.
-- Source: this project's own.
use Rattle.std.proofs.Common.{◌<◌, ◌∷◌, ◌≡◌}
use Rattle.inverse_deps.specs.{Edges.{EdgeMap, names_in, place}, Prelude.{[], AreAdjacencyOf, DepKind, IsStrictlySortedBy, keys_of, kinds, length, List, map, Name, nat_cmp, neighbors, slice_index_or, suc, ℕ}}

-- the name with this index
abbrev pub listed_name : EdgeMap → ℕ → Name
listed_name edges index = slice_index_or (keys_of edges) index []

-- an adjacency list for each name: the indices of the names to which edges of the kind lead from it, in ascending order
pub record AreAdjacencyBy (edges : EdgeMap) (dep : DepKind) (adjacency : List (List ℕ)) : Type 0 where
  pub within : AreAdjacencyOf (length edges) adjacency
  pub ascending : (u : ℕ) → IsStrictlySortedBy nat_cmp (neighbors adjacency u)
  pub exact : (i : ℕ) → i < length edges → map (listed_name edges) (neighbors adjacency i) ≡ names_in edges dep (listed_name edges i)

-- the adjacency lists of a kind among those of all kinds, in the order of the kinds
abbrev pub adjacency_at : List (List (List ℕ)) → DepKind → List (List ℕ)
adjacency_at tables dep = slice_index_or tables (place dep) []

-- such adjacency lists for each kind
pub record AreAdjacencyByKinds (edges : EdgeMap) (tables : List (List (List ℕ))) : Type 0 where
  pub all : length tables ≡ length kinds
  pub each : (dep : DepKind) → AreAdjacencyBy edges dep (adjacency_at tables dep)

-- ---- the edges that names and tables make

-- the names that the tables have for a kind at an index
abbrev pub list_from : List Name → List (List (List ℕ)) → ℕ → DepKind → List Name
list_from names tables index dep = map (λ i. slice_index_or names i []) (neighbors (adjacency_at tables dep) index)

-- and for each kind
abbrev pub lists_from : List Name → List (List (List ℕ)) → ℕ → List (List Name)
lists_from names tables index = map (list_from names tables index) kinds

-- the same for the last of these names, from an index on
abbrev pub edges_from : List Name → List (List (List ℕ)) → ℕ → List Name → EdgeMap
edges_from names tables index [] = []
edges_from names tables index (name ∷ others) = (name, lists_from names tables index) ∷ edges_from names tables (suc index) others

-- for each name those to which the tables have edges from its index, kind by kind
abbrev pub edge_map : List Name → List (List (List ℕ)) → EdgeMap
edge_map names tables = edges_from names tables 0 names
