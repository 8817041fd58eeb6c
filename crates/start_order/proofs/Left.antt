-- The chosen nodes that a start list leaves over are the stuck ones.
use Rattle.std.proofs.Common.{◌↔◌, ◌∷◌, ◌≡◌, ◌⊎◌}
use Rattle.start_order.proofs.Prelude.{[], among_mapped, Bool, false, inl, inr, IsAmong, IsMember, IsStartList, IsStuck, List, map, mapped_from, member_or_not, nat_cmp, neighbors, Precedes, refl, stuck_chosen, stuck_out, subst, suc, sym, true, zero, ℕ}

-- the members of a set
nodes_of : List Bool → List ℕ
nodes_of [] = []
nodes_of (true ∷ bits) = 0 ∷ map suc (nodes_of bits)
nodes_of (false ∷ bits) = map suc (nodes_of bits)

nodes_of-in_set : (bits : List Bool) (v : ℕ) → IsAmong v (nodes_of bits) → IsMember bits v
unfolding nodes_of
nodes_of-in_set [] v h = absurd h
nodes_of-in_set (true ∷ bits) v (inl e) = subst (IsMember (true ∷ bits)) e refl
nodes_of-in_set (true ∷ bits) v (inr h) = let r = mapped_from suc v (nodes_of bits) h in subst (IsMember (true ∷ bits)) r.1.1 (nodes_of-in_set bits r.0 r.1.0)
nodes_of-in_set (false ∷ bits) v h = let r = mapped_from suc v (nodes_of bits) h in subst (IsMember (false ∷ bits)) r.1.1 (nodes_of-in_set bits r.0 r.1.0)

in_set-nodes_of : (bits : List Bool) (v : ℕ) → IsMember bits v → IsAmong v (nodes_of bits)
unfolding nodes_of
in_set-nodes_of [] v m = cc
in_set-nodes_of (true ∷ bits) zero m = inl refl
in_set-nodes_of (false ∷ bits) zero m = cc
in_set-nodes_of (true ∷ bits) (suc v) m = inr (among_mapped suc v (nodes_of bits) (in_set-nodes_of bits v m))
in_set-nodes_of (false ∷ bits) (suc v) m = among_mapped suc v (nodes_of bits) (in_set-nodes_of bits v m)

here : (chosen standing : List Bool) (x : ℕ) → (IsMember chosen x × ¬ IsMember standing x) ⊎ (IsMember chosen x → IsMember standing x)
here chosen standing x = elim (member_or_not standing x) [
  | inl s ↦ inr (λ m. s)
  | inr out ↦ elim (member_or_not chosen x) [ inl m ↦ inl (m, out) | inr none ↦ inr (λ m. absurd (none m)) ]
]

-- what blocks a node: if not every chosen node of a list is started, one of them isn't
waits_for : (chosen standing : List Bool) (xs : List ℕ) → ¬ ((v : ℕ) → IsMember chosen v → IsAmong v xs → IsMember standing v) → (v : ℕ) × (IsMember chosen v × IsAmong v xs × ¬ IsMember standing v)
waits_for chosen standing [] h = absurd (h (λ v m k. absurd k))
waits_for chosen standing (x ∷ xs) h = elim (here chosen standing x) [
  | inl b ↦ (x, (b.0, inl refl, b.1))
  | inr ok ↦
      (let P : ℕ → Type 0 = λ w. IsMember chosen w → IsMember standing w in
      let rest = waits_for chosen standing xs (λ all. h (λ v m k. elim k [ inl e ↦ subst P e ok m | inr t ↦ all v m t ])) in
      (rest.0, (rest.1.0, inr rest.1.1, rest.1.2)))
]

-- `left` are the chosen nodes that a start list leaves over
pub record IsLeft (chosen standing left : List Bool) (adjacency : List (List ℕ)) (list : List ℕ) : Type 0 where
  pub starts : IsStartList nat_cmp (IsMember chosen) (Precedes adjacency) list
  pub agree : (v : ℕ) → IsMember standing v ↔ IsAmong v list
  pub bits : (v : ℕ) → IsMember left v ↔ (IsMember chosen v × ¬ IsMember standing v)

module _ (chosen standing left : List Bool) (adjacency : List (List ℕ)) (list : List ℕ) (h : IsLeft chosen standing left adjacency list) where
  pub left_blocked : (u : ℕ) → IsMember left u → (v : ℕ) × (IsMember left v × Precedes adjacency v u)
  left_blocked u m =
      let mine = (h.bits u).0 m in
      let b = waits_for chosen standing (neighbors adjacency u)
      (λ all. h.starts.whole u (record {
        is_chosen = mine.0;
        waiting = λ k. mine.1 ((h.agree u).1 k);
        ready = λ v c k. (h.agree v).0 (all v c k);
      })) in
      (b.0, ((h.bits b.0).1 (b.1.0, b.1.2), b.1.1))

  pub left_stuck : (u : ℕ) → IsMember left u → IsStuck (IsMember chosen) (Precedes adjacency) u
  left_stuck u m = record {
    knot = nodes_of left;
    tied = record {
      all_chosen = λ v k. ((h.bits v).0 (nodes_of-in_set left v k)).0;
      blocked = λ v k. (let b = left_blocked v (nodes_of-in_set left v k) in (b.0, (in_set-nodes_of left b.0 b.1.0, b.1.1)));
    };
    member = in_set-nodes_of left u m;
  }

  pub stuck_left : (u : ℕ) → IsStuck (IsMember chosen) (Precedes adjacency) u → IsMember left u
  stuck_left u s = (h.bits u).1 (stuck_chosen (IsMember chosen) (Precedes adjacency) u s, λ k. stuck_out (IsMember chosen) (Precedes adjacency) nat_cmp list h.starts u s ((h.agree u).0 k))

  -- where nothing is left, all chosen nodes are started
  pub none_left : ((u : ℕ) → ¬ IsMember left u) → (u : ℕ) → IsMember chosen u → IsAmong u list
  none_left none u m = elim (member_or_not standing u) [ inl k ↦ (h.agree u).0 k | inr out ↦ absurd (none u ((h.bits u).1 (m, out))) ]

-- the same where the slices are other names of these lists
pub left_is : (chosen standing given left read : List Bool) (adjacency : List (List ℕ)) (list : List ℕ) → IsStartList nat_cmp (IsMember chosen) (Precedes adjacency) list
    → ((v : ℕ) → IsMember standing v ↔ IsAmong v list) → given ≡ standing → ((v : ℕ) → IsMember left v ↔ (IsMember chosen v × ¬ IsMember given v)) → read ≡ left → IsLeft chosen given read adjacency list
left_is chosen standing given left read adjacency list starts agree e bits f =
    let P : List Bool → Type 0 = λ l. (v : ℕ) → IsMember l v ↔ IsAmong v list in
    let Q : List Bool → Type 0 = λ l. (v : ℕ) → IsMember l v ↔ (IsMember chosen v × ¬ IsMember given v) in
    record { starts = starts; agree = subst P (sym e) agree; bits = subst Q (sym f) bits }
