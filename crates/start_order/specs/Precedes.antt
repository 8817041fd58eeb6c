-- Which node is before which, by adjacency lists: the list of a node has those before it.
use Rattle.start_order.specs.Prelude.{IsAmong, List, neighbors, ℕ}

-- v is in the list of u
abbrev pub Precedes : List (List ℕ) → ℕ → ℕ → Type 0
Precedes adjacency v u = IsAmong v (neighbors adjacency u)
