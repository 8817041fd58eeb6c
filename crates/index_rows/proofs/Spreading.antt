-- Nodes that are added to a set and noted, one by one.
use Rattle.std.proofs.Common.{◌++◌, ◌+◌, ◌<◌, ◌∷◌, ◌≡◌}
use Rattle.index_rows.proofs.Prelude.{[], arith, Bool, inl, inr, IsAmong-append_left, IsAmong-append_right, IsAmong-push_cases, IsMember, IsMember-set, IsMember-set_other, IsMember-set_same, IsSpread, length, length-append, length-set, List, refl, set, subst, sym, true, unset-set, ℕ, ◌∙◌}

pub IsSpread-none : (s : List Bool) (t : List ℕ) → IsSpread s s t t []
IsSpread-none s t = record {
  units = refl;
  kept = λ v m. m;
  all = λ v h. absurd h;
  origin = λ v m. inl m;
  notes_kept = λ v h. h;
  noted = λ v m. inl m;
  notes_origin = λ v h. inl h;
  sum = refl;
}

pub IsSpread-skip : (s0 s : List Bool) (t0 t nodes : List ℕ) (x : ℕ) → IsMember s x → IsSpread s0 s t0 t nodes → IsSpread s0 s t0 t (nodes ++ x ∷ [])
IsSpread-skip s0 s t0 t nodes x m h = record {
  units = h.units;
  kept = h.kept;
  all = λ v k. elim (IsAmong-push_cases x v nodes k) [ inl a ↦ h.all v a | inr e ↦ subst (IsMember s) e m ];
  origin = λ v k. elim (h.origin v k) [ inl a ↦ inl a | inr a ↦ inr (IsAmong-append_left v nodes (x ∷ []) a) ];
  notes_kept = h.notes_kept;
  noted = h.noted;
  notes_origin = λ v k. elim (h.notes_origin v k) [ inl a ↦ inl a | inr a ↦ inr (IsAmong-append_left v nodes (x ∷ []) a.0, a.1) ];
  sum = h.sum;
}

pub IsSpread-more : (s0 s : List Bool) (t0 t nodes : List ℕ) (x : ℕ) → x < length s → ¬ IsMember s x → IsSpread s0 s t0 t nodes
    → IsSpread s0 (set s x true) t0 (t ++ x ∷ []) (nodes ++ x ∷ [])
IsSpread-more s0 s t0 t nodes x lt fresh h = record {
  units = length-set s x true ∙ h.units;
  kept = λ v m. IsMember-set_other s x v (h.kept v m);
  all = λ v k. elim (IsAmong-push_cases x v nodes k) [
    | inl a ↦ IsMember-set_other s x v (h.all v a)
    | inr e ↦ subst (IsMember (set s x true)) e (IsMember-set_same s x lt)
  ];
  origin = λ v k. elim (IsMember-set s x v lt k) [
    | inl m ↦ elim (h.origin v m) [ inl a ↦ inl a | inr a ↦ inr (IsAmong-append_left v nodes (x ∷ []) a) ]
    | inr e ↦ inr (IsAmong-append_right v nodes (x ∷ []) (inl e))
  ];
  notes_kept = λ v k. IsAmong-append_left v t (x ∷ []) (h.notes_kept v k);
  noted = λ v k. elim (IsMember-set s x v lt k) [
    | inl m ↦ elim (h.noted v m) [ inl a ↦ inl a | inr a ↦ inr (IsAmong-append_left v t (x ∷ []) a) ]
    | inr e ↦ inr (IsAmong-append_right v t (x ∷ []) (inl e))
  ];
  notes_origin = λ v k. elim (IsAmong-push_cases x v t k) [
    | inl m ↦ elim (h.notes_origin v m) [ inl a ↦ inl a | inr a ↦ inr (IsAmong-append_left v nodes (x ∷ []) a.0, a.1) ]
    | inr e ↦ inr (IsAmong-append_right v nodes (x ∷ []) (inl e), λ m. fresh (subst (IsMember s) (sym e) (h.kept v m)))
  ];
  sum = (let a = unset-set s x lt fresh in let b : length (t ++ x ∷ []) ≡ length t + 1 = length-append t (x ∷ []) in let d = h.sum in omega arith);
}

pub IsSpread-at : (x : List Bool) (a b : List Bool) (t u v r q : List ℕ) → b ≡ a → v ≡ u → q ≡ r → IsSpread x a t u r → IsSpread x b t v q
IsSpread-at x a b t u v r q e f g h =
    let P : List Bool → Type 0 = λ l. IsSpread x l t v q in
    let Q : List ℕ → Type 0 = λ l. IsSpread x a t l q in
    let R : List ℕ → Type 0 = λ l. IsSpread x a t u l in
    subst P (sym e) (subst Q (sym f) (subst R (sym g) h))
