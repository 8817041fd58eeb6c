-- Edges of a kind by the indices of a load's names.
-- Source: this project's own.
use Rattle.std.proofs.Common.{◌<◌, ◌≡◌}
use Rattle.unit_graph.specs.Prelude.{AreAdjacencyOf, count_of, DepKind, EdgeMap, IsStrictlySortedBy, List, LoadMap, map, name_at, names_in, nat_cmp, neighbors, ℕ}

-- the adjacency list of each index has, in ascending order, the indices of the names to which edges of the kind lead
pub record IsTable (load : LoadMap) (edges : EdgeMap) (dep : DepKind) (adjacency : List (List ℕ)) : Type 0 where
  pub within : AreAdjacencyOf (count_of load) adjacency
  pub ascending : (u : ℕ) → IsStrictlySortedBy nat_cmp (neighbors adjacency u)
  pub exact : (i : ℕ) → i < count_of load → map (name_at load) (neighbors adjacency i) ≡ names_in edges dep (name_at load i)
