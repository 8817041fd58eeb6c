-- The order in which chosen nodes start, and what keeps the others from starting: for any nodes, in any order of their
-- names.
-- Source: systemd.unit(5), "Before=, After="; that the least node comes first, and which cycle is reported, is this
-- project's own.
use Rattle.std.proofs.Common.{◌++◌, ◌∷◌, ◌≡◌}
use Rattle.start_order.specs.Prelude.{[], IsAmong, IsLeast, IsReached, Less, List, Listed, Ordering}

module _ {N : Type 0} (chosen : N → Type 0) (before : N → N → Type 0) where
  -- u can start once the nodes of `standing` are started: it is chosen, isn't started, and each chosen node before it
  -- is started
  pub record CanStart (standing : N → Type 0) (u : N) : Type 0 where
    pub is_chosen : chosen u
    pub waiting : ¬ standing u
    pub ready : (v : N) → chosen v → before v u → standing v

  -- a list of chosen nodes, each of which has a node of the list before it
  pub record IsKnot (knot : List N) : Type 0 where
    pub all_chosen : (u : N) → IsAmong u knot → chosen u
    pub blocked : (u : N) → IsAmong u knot → (v : N) × (IsAmong v knot × before v u)

  -- u is in such a list. All of them together are the largest set in which each member has another one before it.
  pub record IsStuck (u : N) : Type 0 where
    pub knot : List N
    pub tied : IsKnot knot
    pub member : IsAmong u knot

module _ {N : Type 0} (order : N → N → Ordering) (chosen : N → Type 0) (before : N → N → Type 0) where
  -- Wherever the list is split, the node after the split is the least that can start once those before the split are
  -- started. When all of the list are started, no other node can start.
  pub record IsStartList (list : List N) : Type 0 where
    pub each_least : (prefix : List N) (u : N) (rest : List N) → list ≡ prefix ++ u ∷ rest
        → IsLeast order (CanStart chosen before (Listed prefix)) u
    pub whole : (u : N) → ¬ CanStart chosen before (Listed list) u

module _ {N : Type 0} (order : N → N → Ordering) (stuck : N → Type 0) (before : N → N → Type 0) where
  -- v is the least of the stuck nodes before u
  abbrev pub IsBlocker : N → N → Type 0
  IsBlocker v u = IsLeast order (λ w. stuck w × before w u) v

  -- each is the blocker of the next: u of the list's first, and so on, and the list's last of v
  abbrev pub IsBlockedAlong : N → List N → N → Type 0
  IsBlockedAlong u [] v = IsBlocker u v
  IsBlockedAlong u (w ∷ ws) v = IsBlocker u w × IsBlockedAlong w ws v

  -- The ring of blockers that is reached from the least stuck node by going from each node to its blocker. It begins at
  -- its least node, each node of it is the blocker of the next, and the last is the blocker of the first.
  pub record IsRing (first : N) (rest : List N) : Type 0 where
    pub round : IsBlockedAlong first rest first
    pub least : (u : N) → IsAmong u rest → order first u ≡ Less
    pub met : IsReached (IsLeast order stuck) (λ u v. IsBlocker v u) first

  abbrev pub IsCycle : List N → Type 0
  IsCycle [] = ⊥
  IsCycle (first ∷ rest) = IsRing first rest
