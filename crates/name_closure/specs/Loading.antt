-- What is loaded for nodes, and the edges to the nodes that are named there. What is loaded for a node is an arbitrary
-- relation.
-- Source: this project's own.
use Rattle.std.proofs.Common.{◌≡◌, ◌⊎◌}
use Rattle.name_closure.specs.Prelude.{All, flat_map, IsAmong, keys_of, List}

module _ {N U : Type 0} (is_loaded : N → U → Type 0) where
  -- the second node is named in something that is loaded for the first
  pub record LeadsByLoad (named : U → List N) (n m : N) : Type 0 where
    pub one : U
    pub loaded : is_loaded n one
    pub names : IsAmong m (named one)

  -- each node is paired with what is loaded for it
  abbrev pub AreLoaded : List (N × U) → Type 0
  AreLoaded pairs = All (λ p. is_loaded p.0 p.1) pairs

  -- the nodes in their order, each paired with what is loaded for it
  pub record AreLoads (nodes : List N) (pairs : List (N × U)) : Type 0 where
    pub in_order : keys_of pairs ≡ nodes
    pub loaded : AreLoaded pairs

-- `some` are among `all`, and every member of `all` that isn't the round's own is among `some`
pub record AreOthers {N : Type 0} (own all some : List N) : Type 0 where
  pub origin : (n : N) → IsAmong n some → IsAmong n all
  pub took : (n : N) → IsAmong n all → IsAmong n own ⊎ IsAmong n some

-- none of these is the round's own
abbrev pub AreApart : {N : Type 0} → List N → List N → Type 0
AreApart {N} own some = (n : N) → IsAmong n some → ¬ IsAmong n own

-- what a round of these nodes loads: each node with what is loaded for it, and the other nodes that are named there,
-- all of which can be loaded
pub record IsRound {N U : Type 0} (is_node : N → Type 0) (is_loaded : N → U → Type 0) (named : U → List N)
    (nodes : List N) (pairs : List (N × U)) (names : List N) : Type 0 where
  pub loads : AreLoads is_loaded nodes pairs
  pub others : AreOthers nodes (flat_map (λ p. named p.1) pairs) names
  pub can_load : All is_node names
