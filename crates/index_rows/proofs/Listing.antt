-- The members of a set, listed in ascending order.
use Rattle.std.proofs.Common.{◌++◌, ◌+◌, ◌<◌, ◌↔◌, ◌∷◌, ◌≡◌}
use Rattle.index_rows.proofs.Prelude.{[], AllByRecursion, arith, below_cmp, cases_eq, inl, inr, IsAmong, IsAmong-append_cases, IsAmong-append_left, IsAmong-append_right, IsStrictlySortedBy, Less, List, nat_cmp, Ordering, refl, subst, sym, ℕ}

below_push : {X : Type 0} (R : X → X → Ordering) (y : X) (xs : List X) (x : X) → AllByRecursion (λ z. R y z ≡ Less) xs → R y x ≡ Less → AllByRecursion (λ z. R y z ≡ Less) (xs ++ x ∷ [])
below_push R y [] x a l = (l, tt)
below_push R y (z ∷ zs) x a l = (a.0, below_push R y zs x a.1 l)

-- an ascending list stays ascending when a greater element is appended
pub IsStrictlySortedBy-push : {X : Type 0} (R : X → X → Ordering) (xs : List X) (x : X) → IsStrictlySortedBy R xs → ((y : X) → IsAmong y xs → R y x ≡ Less) → IsStrictlySortedBy R (xs ++ x ∷ [])
unfolding IsStrictlySortedBy
IsStrictlySortedBy-push R [] x s above = (tt, tt)
IsStrictlySortedBy-push R (y ∷ ys) x s above = (below_push R y ys x s.0 (above y (inl refl)), IsStrictlySortedBy-push R ys x s.1 (λ z h. above z (inr h)))

pub IsStrictlySortedBy-none : {X : Type 0} (R : X → X → Ordering) → IsStrictlySortedBy R []
unfolding IsStrictlySortedBy
IsStrictlySortedBy-none R = tt

-- the list is ascending, and has exactly the nodes below i with P
pub record IsListedBelow (P : ℕ → Type 0) (i : ℕ) (list : List ℕ) : Type 0 where
  pub ascending : IsStrictlySortedBy nat_cmp list
  pub members : (v : ℕ) → IsAmong v list ↔ ((v < i) × P v)

pub IsListedBelow-none : (P : ℕ → Type 0) → IsListedBelow P 0 []
IsListedBelow-none P = record {
  ascending = IsStrictlySortedBy-none nat_cmp;
  members = λ v. (λ h. absurd h, λ h. absurd (let l : v < 0 = h.0 in omega arith));
}

below_still : (i v : ℕ) → v < i + 1 → ¬ (i ≡ v) → v < i
below_still i v l ne = omega arith

module _ (P : ℕ → Type 0) (i : ℕ) (old new : List ℕ) (h : IsListedBelow P i old) where
  pub IsListedBelow-more : P i → new ≡ old ++ i ∷ [] → IsListedBelow P (i + 1) new
  IsListedBelow-more p e = subst (IsListedBelow P (i + 1)) (sym e) (record {
    ascending = IsStrictlySortedBy-push nat_cmp old i h.ascending (λ y k. below_cmp y i ((h.members y).0 k).0);
    members = λ v. (to v, from v);
  })
    where
      to : (v : ℕ) → IsAmong v (old ++ i ∷ []) → (v < i + 1) × P v
      to v k = elim (IsAmong-append_cases v old (i ∷ []) k) [
        | inl a ↦ (let f = (h.members v).0 a in let l : v < i = f.0 in (omega arith, f.1))
        | inr a ↦ elim a [ inl same ↦ (omega arith, subst P same p) | inr none ↦ absurd none ]
      ]

      from : (v : ℕ) → (v < i + 1) × P v → IsAmong v (old ++ i ∷ [])
      from v k = elim (cases_eq i v) [
        | inl same ↦ IsAmong-append_right v old (i ∷ []) (inl same)
        | inr ne ↦ IsAmong-append_left v old (i ∷ []) ((h.members v).1 (below_still i v k.0 ne, k.1))
      ]

  pub IsListedBelow-skip : ¬ P i → new ≡ old → IsListedBelow P (i + 1) new
  IsListedBelow-skip out e = subst (IsListedBelow P (i + 1)) (sym e) (record { ascending = h.ascending; members = λ v. (to v, from v) })
    where
      to : (v : ℕ) → IsAmong v old → (v < i + 1) × P v
      to v k = let f = (h.members v).0 k in let l : v < i = f.0 in (omega arith, f.1)

      from : (v : ℕ) → (v < i + 1) × P v → IsAmong v old
      from v k = elim (cases_eq i v) [
        | inl same ↦ absurd (out (subst P (sym same) k.1))
        | inr ne ↦ (h.members v).1 (below_still i v k.0 ne, k.1)
      ]
