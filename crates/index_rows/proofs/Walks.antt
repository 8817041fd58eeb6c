-- Walks that go on from the members of a set alone.
use Rattle.std.proofs.Common.{◌++◌, ◌↔◌, ◌≡◌}
use Rattle.index_rows.proofs.Prelude.{[], AreSuccessorsOf, Bool, Err, Global, IfOk, inl, inr, inside_all, inside_is, IsAmong, IsAmong-append_cases, IsAmong-append_left, IsAmong-append_right, IsMember, IsMember-all, IsReached, LeadsInside, LeadsOn, List, Listed, Named, Ok, replicate, Result, same_reached, subst, successors-start, successors_from, successors_inside, sym, true, Vec, ℕ}

module _ (n : ℕ) (firm weak : List (List (List ℕ))) (inside going all : List Bool) (u : ℕ) where
  -- where the walk goes on, it takes the firm edges, and the weak ones to members
  pub walk_goes_on : all ≡ replicate n true → AreSuccessorsOf n firm → IsMember going u → (v : ℕ) → IsAmong v (successors_inside all firm u ++ successors_inside inside weak u) ↔ LeadsOn firm weak inside going u v
  walk_goes_on full a g v =
      let F = successors_from firm u in
      let W = successors_inside inside weak u in
      let P : List Bool → Type 0 = λ l. IsAmong v (successors_inside l firm u ++ W) ↔ LeadsOn firm weak inside going u v in
      let Q : List ℕ → Type 0 = λ l. IsAmong v (l ++ W) ↔ LeadsOn firm weak inside going u v in
      subst P (sym full) (subst Q (sym (inside_all n firm u a)) (
        λ h. record { goes_on = g; edge = elim (IsAmong-append_cases v F W h) [ inl k ↦ inl k | inr k ↦ inr ((inside_is inside weak u v).0 k) ] },
        λ l. elim l.edge [ inl k ↦ IsAmong-append_left v F W k | inr k ↦ IsAmong-append_right v F W ((inside_is inside weak u v).1 k) ],
      ))

  -- elsewhere it takes none
  pub walk_stays : ¬ IsMember going u → (v : ℕ) → IsAmong v [] ↔ LeadsOn firm weak inside going u v
  walk_stays out v = (λ h. absurd h, λ l. absurd (out l.goes_on))

-- one kind of edges alone, from all nodes
module _ (n : ℕ) (kinds none : List (List (List ℕ))) (inside all : List Bool) (empty : none ≡ []) (full : all ≡ replicate n true) (a : AreSuccessorsOf n kinds) where
  starts : (u v : ℕ) → IsAmong v (successors_from kinds u) → IsMember all u
  starts u v h = let P : List Bool → Type 0 = λ l. IsMember l u in subst P (sym full) (IsMember-all n u (successors-start n kinds u v a h))

  no_edge : (u v : ℕ) → ¬ IsAmong v (successors_from none u)
  no_edge u v h = let P : List (List (List ℕ)) → Type 0 = λ ks. IsAmong v (successors_from ks u) in absurd (subst P empty h)

  pub inside_alone : (u v : ℕ) → LeadsOn none kinds inside all u v ↔ LeadsInside inside kinds u v
  inside_alone u v = (
    λ l. elim l.edge [ inl k ↦ absurd (no_edge u v k) | inr k ↦ k ],
    λ l. record { goes_on = starts u v l.step; edge = inr l },
  )

  pub all_alone : (u v : ℕ) → LeadsOn kinds none inside all u v ↔ Named (successors_from kinds) u v
  all_alone u v = (
    λ l. elim l.edge [ inl k ↦ k | inr k ↦ absurd (no_edge u v k.step) ],
    λ h. record { goes_on = starts u v h; edge = inl h },
  )

-- a bit set that a call returns, over the same edges in other words
module _ {E : Type 0} (r : Result (Vec Bool Global) E) where
  pub over_edges : (sources : List ℕ) (F G : ℕ → ℕ → Type 0) → ((u v : ℕ) → F u v ↔ G u v) → IfOk r (λ bits. (v : ℕ) → IsMember bits.items v ↔ IsReached (Listed sources) F v)
      → IfOk r (λ bits. (v : ℕ) → IsMember bits.items v ↔ IsReached (Listed sources) G v)
  over_edges sources F G same h = by r h
    where
      by : (r : Result (Vec Bool Global) E) → IfOk r (λ bits. (v : ℕ) → IsMember bits.items v ↔ IsReached (Listed sources) F v) → IfOk r (λ bits. (v : ℕ) → IsMember bits.items v ↔ IsReached (Listed sources) G v)
      by (Err e) h = tt
      by (Ok bits) h = λ v. (
        λ k. (same_reached (Listed sources) (Listed sources) F G (λ u. (λ a. a, λ a. a)) same v).0 ((h v).0 k),
        λ k. (h v).1 ((same_reached (Listed sources) (Listed sources) F G (λ u. (λ a. a, λ a. a)) same v).1 k),
      )
