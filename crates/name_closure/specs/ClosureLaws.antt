-- A closure has its sources, is closed under the edges, and is the least such set; there is one list of it.
use Rattle.std.proofs.Common.{◌≡◌}
use Rattle.name_closure.specs.{Chains.{IsChain, IsClosure, IsReached}, Prelude.{IsTotalOrder, List, one_ascending_list, Ordering, suc, zero, ℕ}}

-- the set has the sources, and each node to which an edge leads from one of its members
pub record IsClosed {N : Type 0} (starts : N → Type 0) (leads : N → N → Type 0) (set : N → Type 0) : Type 0 where
  pub started : (n : N) → starts n → set n
  pub stepped : (n m : N) → set n → leads n m → set m

module _ {N : Type 0} (starts : N → Type 0) (leads : N → N → Type 0) where
  pub reached_closed : IsClosed starts leads (IsReached starts leads)
  reached_closed = record {
    started = λ n s. record { steps = 0; chain = s };
    stepped = λ n m r l. record { steps = suc r.steps; chain = (n, (r.chain, l)) };
  }

  chain_within : (set : N → Type 0) → IsClosed starts leads set → (k : ℕ) (n : N) → IsChain starts leads k n → set n
  chain_within set c zero n h = c.started n h
  chain_within set c (suc k) n h = c.stepped h.0 n (chain_within set c k h.0 h.1.0) h.1.1

  -- every reached node is in each closed set
  pub reached_least : (set : N → Type 0) → IsClosed starts leads set → (n : N) → IsReached starts leads n → set n
  reached_least set c n r = chain_within set c r.steps n r.chain

  module _ (order : N → N → Ordering) where
    pub one_closure : IsTotalOrder order → (xs ys : List N) → IsClosure starts leads order xs → IsClosure starts leads order ys → xs ≡ ys
    one_closure total xs ys a b =
        one_ascending_list order total xs ys a.ascending b.ascending
        (λ n. (λ h. (b.members n).1 ((a.members n).0 h), λ h. (a.members n).1 ((b.members n).0 h)))
