-- Edges of one or more kinds between nodes: each kind has an adjacency list for each node.
-- Source: this project's own.
use Rattle.std.proofs.Common.{◌==◌, ◌||◌, ◌∷◌, ◌≡◌, ◌⊎◌}
use Rattle.index_rows.specs.{Adjacency.{AreAdjacencyOf, IsMember, neighbors}, Prelude.{[], All, Bool, false, filter, flat_map, IsAmong, List, slice_index_or, ℕ}}

-- the nodes to which an edge of some kind leads from this one
abbrev pub successors_from : List (List (List ℕ)) → ℕ → List ℕ
successors_from kinds node = flat_map (λ adjacency. neighbors adjacency node) kinds

-- edges between n nodes: adjacency lists of each kind
abbrev pub AreSuccessorsOf : ℕ → List (List (List ℕ)) → Type 0
AreSuccessorsOf n kinds = All (AreAdjacencyOf n) kinds

-- an edge leads from the first node to the second, which is a member of the set
pub record LeadsInside (inside : List Bool) (kinds : List (List (List ℕ))) (u v : ℕ) : Type 0 where
  pub step : IsAmong v (successors_from kinds u)
  pub member : IsMember inside v

-- The first node is a member of `going`. A firm edge leads from it to the second, or a weak one, and the second is a
-- member of `inside`.
pub record LeadsOn (firm weak : List (List (List ℕ))) (inside going : List Bool) (u v : ℕ) : Type 0 where
  pub goes_on : IsMember going u
  pub edge : IsAmong v (successors_from firm u) ⊎ LeadsInside inside weak u v

-- whether a node is a member of a list
abbrev pub stands_in : ℕ → List ℕ → Bool
stands_in node [] = false
stands_in node (x ∷ xs) = (x == node) || stands_in node xs

-- transposed edges: where an edge leads from v to u, one of the others leads from u to v, and only there
abbrev pub AreOpposite : (ℕ → List ℕ) → (ℕ → List ℕ) → Type 0
AreOpposite next others = (u v : ℕ) → stands_in v (others u) ≡ stands_in u (next v)

-- ---- words for private clauses

abbrev pub is_member : List Bool → ℕ → Bool
is_member bits node = slice_index_or bits node false

-- those successors of a node that are members of the set
abbrev pub successors_inside : List Bool → List (List (List ℕ)) → ℕ → List ℕ
successors_inside inside kinds node = flat_map (λ adjacency. filter (is_member inside) (neighbors adjacency node)) kinds
