-- Nodes as indices from 0: bit sets of nodes, and edges as adjacency lists.
-- Source: this project's own.
use Rattle.std.proofs.Common.{◌<◌, ◌==◌, ◌∷◌, ◌≡◌}
use Rattle.index_rows.specs.Prelude.{[], All, Bool, cond, false, IsTrue, length, List, slice_index_or, suc, ℕ}

-- the members of a bit set: nodes past its last bit aren't in it
abbrev pub IsMember : List Bool → ℕ → Type 0
IsMember bits node = IsTrue (slice_index_or bits node false)

-- the successors of a node; past the last list there are none
abbrev pub neighbors : List (List ℕ) → ℕ → List ℕ
neighbors adjacency node = slice_index_or adjacency node []

-- each node in an adjacency list is below n
abbrev pub AllBelow : ℕ → List (List ℕ) → Type 0
AllBelow n adjacency = All (λ nodes. All (λ node. node < n) nodes) adjacency

-- adjacency lists of n nodes: one for each, and only these nodes in them
pub record AreAdjacencyOf (n : ℕ) (adjacency : List (List ℕ)) : Type 0 where
  pub one_each : length adjacency ≡ n
  pub within : AllBelow n adjacency

-- how often a node occurs in a list
abbrev pub times : ℕ → List ℕ → ℕ
times node [] = 0
times node (x ∷ xs) = cond (x == node) (suc (times node xs)) (times node xs)

-- the transposed edges: where v is in the list of u, u is in the other list of v, and as often
abbrev pub AreTransposed : List (List ℕ) → List (List ℕ) → Type 0
AreTransposed adjacency others = (u v : ℕ) → times v (neighbors others u) ≡ times u (neighbors adjacency v)
