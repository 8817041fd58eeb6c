-- Which edges may come and go while a closure stays.
-- Source: this project's own.
use Rattle.std.proofs.Common.{◌⊎◌}
use Rattle.name_closure.specs.Prelude.{inl, inr, List, Ordering, suc, zero, ℕ}
use Rattle.name_closure.specs.{Chains.{IsChain, IsClosure, IsReached}, ClosureLaws.{reached_closed, reached_least}}

module _ {N : Type 0} (starts : N → Type 0) (old new : N → N → Type 0) where
  -- each old edge from a reached node is still there, or ends at a node that is reached anyway, as a source is
  abbrev pub SuccessorsStay : Type 0
  SuccessorsStay = (n m : N) → IsReached starts old n → old n m → new n m ⊎ IsReached starts new m

  -- and each new edge from a node that was reached ends at one that was reached
  pub record SuccessorsStayWithin : Type 0 where
    pub stay : SuccessorsStay
    pub within : (n m : N) → IsReached starts old n → new n m → IsReached starts old m

  stays_after : (n m : N) → IsReached starts new n → new n m ⊎ IsReached starts new m → IsReached starts new m
  stays_after n m r (inl l) = (reached_closed starts new).stepped n m r l
  stays_after n m r (inr s) = s

  stays_by : SuccessorsStay → (k : ℕ) (n : N) → IsChain starts old k n → IsReached starts new n
  stays_by stay zero n c = record { steps = 0; chain = c }
  stays_by stay (suc k) n c =
      stays_after c.0 n (stays_by stay k c.0 c.1.0) (stay c.0 n (record { steps = k; chain = c.1.0 }) c.1.1)

  -- what was reached is still reached
  pub reached_stays : SuccessorsStay → (n : N) → IsReached starts old n → IsReached starts new n
  reached_stays stay n r = stays_by stay r.steps n r.chain

  -- and nothing else is, where no new edge leaves the reached set
  pub reached_within : SuccessorsStayWithin → (n : N) → IsReached starts new n → IsReached starts old n
  reached_within by n r =
      reached_least starts new (IsReached starts old)
      (record { started = λ m s. record { steps = 0; chain = s }; stepped = λ m o a l. by.within m o a l }) n r

  -- so the closure is unchanged
  pub closure_stays : SuccessorsStayWithin → (order : N → N → Ordering) (nodes : List N)
      → IsClosure starts old order nodes → IsClosure starts new order nodes
  closure_stays by order nodes c = record {
    ascending = c.ascending;
    members = λ n. (λ h. reached_stays by.stay n ((c.members n).0 h), λ r. (c.members n).1 (reached_within by n r));
  }
