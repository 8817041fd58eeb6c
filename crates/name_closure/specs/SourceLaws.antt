-- How the reached nodes depend on the sources and the edges: only on which they are.
use Rattle.std.proofs.Common.{◌↔◌}
use Rattle.name_closure.specs.{Chains.{IsChain, IsClosure, IsDistance, IsReached}, Prelude.{List, Ordering, suc, zero, ℕ}}

-- the same nodes are in both sets
abbrev pub AreSameNodes : {N : Type 0} → (N → Type 0) → (N → Type 0) → Type 0
AreSameNodes {N} s t = (n : N) → s n ↔ t n

-- the same edges are in both relations
abbrev pub AreSameSuccessors : {N : Type 0} → (N → N → Type 0) → (N → N → Type 0) → Type 0
AreSameSuccessors {N} e f = (n m : N) → e n m ↔ f n m

module _ {N : Type 0} where
  module _ (s t : N → Type 0) (e f : N → N → Type 0) (sources : (n : N) → s n → t n) (steps : (n m : N) → e n m → f n m) where
    -- all chains are still there when sources and edges are added
    pub more_chains : (k : ℕ) (n : N) → IsChain s e k n → IsChain t f k n
    more_chains zero n c = sources n c
    more_chains (suc k) n c = (c.0, (more_chains k c.0 c.1.0, steps c.0 n c.1.1))

    -- and all nodes are still reached
    pub more_reached : (n : N) → IsReached s e n → IsReached t f n
    more_reached n r = record { steps = r.steps; chain = more_chains r.steps n r.chain }

  module _ (s t : N → Type 0) (e f : N → N → Type 0) (sources : AreSameNodes s t) (steps : AreSameSuccessors e f) where
    forward : (k : ℕ) (n : N) → IsChain s e k n → IsChain t f k n
    forward = more_chains s t e f (λ n. (sources n).0) (λ n m. (steps n m).0)

    back : (k : ℕ) (n : N) → IsChain t f k n → IsChain s e k n
    back = more_chains t s f e (λ n. (sources n).1) (λ n m. (steps n m).1)

    pub same_reached : AreSameNodes (IsReached s e) (IsReached t f)
    same_reached n =
        (λ r. record { steps = r.steps; chain = forward r.steps n r.chain }, λ r. record { steps = r.steps; chain = back r.steps n r.chain })

    pub same_distance : (n : N) (k : ℕ) → IsDistance s e n k ↔ IsDistance t f n k
    same_distance n k = (
      λ d. record { chain = forward k n d.chain; least = λ j c. d.least j (back j n c) },
      λ d. record { chain = back k n d.chain; least = λ j c. d.least j (forward j n c) },
    )

    pub same_closure : (order : N → N → Ordering) (nodes : List N) → IsClosure s e order nodes → IsClosure t f order nodes
    same_closure order nodes c = record {
      ascending = c.ascending;
      members = λ n. (λ h. (same_reached n).0 ((c.members n).0 h), λ r. (c.members n).1 ((same_reached n).1 r));
    }
