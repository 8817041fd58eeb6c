-- The walk from the least stuck node, from each node to its blocker. Only private clauses cite these.
use Rattle.std.proofs.Common.{◌∷◌, ◌≡◌, ◌⊎◌}
use Rattle.start_order.specs.{Prelude.{[], IsAmong, IsLeast, IsReached, List, nat_cmp, ℕ}, StartOrder.{IsBlocker}}

-- no two members of the list are equal
abbrev pub AreDistinct : List ℕ → Type 0
AreDistinct [] = Unit {0}
AreDistinct (x ∷ xs) = ¬ IsAmong x xs × AreDistinct xs

module _ (stuck : ℕ → Type 0) (before : ℕ → ℕ → Type 0) where
  -- from u over the list to v, each is the blocker of the one before it
  abbrev pub LeadsBack : ℕ → List ℕ → ℕ → Type 0
  LeadsBack u [] v = IsBlocker nat_cmp stuck before v u
  LeadsBack u (w ∷ ws) v = IsBlocker nat_cmp stuck before w u × LeadsBack w ws v

  -- the walk met the nodes of the list, in this order, and is now at `next`
  abbrev pub LeadsTo : List ℕ → ℕ → Type 0
  LeadsTo [] next = Unit {0}
  LeadsTo (t ∷ ts) next = LeadsBack t ts next

  pub record IsWalk (met : List ℕ) (next : ℕ) : Type 0 where
    pub led : LeadsTo met next
    pub distinct : AreDistinct met
    pub reached : (t : ℕ) → IsAmong t met ⊎ (next ≡ t) → IsReached (IsLeast nat_cmp stuck) (λ u v. IsBlocker nat_cmp stuck before v u) t
