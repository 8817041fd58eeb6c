-- Sets and relations of indexed units, as bit sets and edges. Only private clauses cite these.
use Rattle.std.proofs.Common.{◌<◌, ◌↔◌, ◌≡◌}
use Rattle.plan_choice.specs.Prelude.{AreSuccessorsOf, Bool, IsAmong, IsMember, length, List, successors_from, ℕ}

-- a bit set over `count` units, with exactly the members of the set
pub record AreBitsOf (count : ℕ) (set : ℕ → Type 0) (bits : List Bool) : Type 0 where
  pub units : length bits ≡ count
  pub sets : (u : ℕ) → IsMember bits u ↔ set u

-- edges between `count` units, for exactly the pairs of the relation
pub record ArePairsOf (count : ℕ) (relation : ℕ → ℕ → Type 0) (successors : List (List (List ℕ))) : Type 0 where
  pub well_formed : AreSuccessorsOf count successors
  pub pairs : (u v : ℕ) → IsAmong v (successors_from successors u) ↔ relation u v

-- a list of units below the count, with exactly the members of the set
pub record IsListOf (count : ℕ) (set : ℕ → Type 0) (units : List ℕ) : Type 0 where
  pub below : (u : ℕ) → IsAmong u units → u < count
  pub members : (u : ℕ) → IsAmong u units ↔ set u
