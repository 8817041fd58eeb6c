-- Which nodes are reached from sources along edges, and at which distance: for any nodes, sources and edges.
-- Source: Cormen, Leiserson, Rivest, Stein, Introduction to Algorithms, chapter "Elementary graph algorithms"
-- (reachability, shortest-path distance). That a closure is given by a list, and an excess over a limit by a list of
-- that many members, is this project's own.
use Rattle.std.proofs.Common.{◌<◌, ◌↔◌, ◌≤◌}
use Rattle.name_closure.specs.Prelude.{IsAmong, IsStrictlySortedBy, length, List, nat_cmp, Ordering, ordering_then, suc, zero, ℕ}

module _ {N : Type 0} (starts : N → Type 0) (leads : N → N → Type 0) where
  -- a chain of this many edges leads from a source to the node
  abbrev pub IsChain : ℕ → N → Type 0
  IsChain zero n = starts n
  IsChain (suc k) n = (m : N) × (IsChain k m × leads m n)

  -- some chain leads to the node
  pub record IsReached (n : N) : Type 0 where
    pub steps : ℕ
    pub chain : IsChain steps n

  -- a chain of k edges leads to the node, and no shorter one does
  pub record IsDistance (n : N) (k : ℕ) : Type 0 where
    pub chain : IsChain k n
    pub least : (j : ℕ) → IsChain j n → k ≤ j

  module _ (order : N → N → Ordering) where
    -- all reached nodes, each once, in ascending order
    pub record IsClosure (nodes : List N) : Type 0 where
      pub ascending : IsStrictlySortedBy order nodes
      pub members : (n : N) → IsAmong n nodes ↔ IsReached n

    -- more nodes than the limit are reached: some list of them is longer
    pub record HasOver (limit : ℕ) : Type 0 where
      pub nodes : List N
      pub ascending : IsStrictlySortedBy order nodes
      pub reached : (n : N) → IsAmong n nodes → IsReached n
      pub over : limit < length nodes

    -- orders by distance, and at one distance by node
    abbrev pub distance_cmp : ℕ × N → ℕ × N → Ordering
    distance_cmp a b = ordering_then (nat_cmp a.0 b.0) (order a.1 b.1)

    -- all reached nodes, each once with its distance, ordered by distance and then by node
    pub record IsDistances (pairs : List (ℕ × N)) : Type 0 where
      pub ascending : IsStrictlySortedBy distance_cmp pairs
      pub members : (k : ℕ) (n : N) → IsAmong {X = ℕ × N} (k, n) pairs ↔ IsDistance n k
