-- Keys that are inserted and removed.
use Rattle.std.proofs.Common.{◌<◌, ◌↔◌, ◌∷◌, ◌≡◌, ◌≤◌, ◌⊎◌}
use Rattle.start_order.proofs.Prelude.{[], All, All-among, arith, cmp_below, IfNone, IfSome, inl, inr, insert_key, IsAmong, IsLtBy, IsSome, length, List, MatchOption, nat_cmp, nat_cmp-IsAntisymmetric, None, Option, put_kept, put_sound, put_there, refl, Some, subst, sym, ℕ}

-- a key is inserted
pub IsAmong-insert_key : (ks : List ℕ) (k v : ℕ) → IsAmong v (insert_key nat_cmp ks k) ↔ (IsAmong v ks ⊎ (k ≡ v))
IsAmong-insert_key ks k v = (
  put_sound nat_cmp k ks v,
  λ h. elim h [ inl n ↦ put_kept nat_cmp k ks v n | inr e ↦ subst (λ w. IsAmong w (insert_key nat_cmp ks k)) e (put_there nat_cmp nat_cmp-IsAntisymmetric k ks) ],
)

-- the least key is removed
taken : (k : ℕ) (old new : List ℕ) → old ≡ k ∷ new → All (IsLtBy nat_cmp k) new → IsAmong k old × ((v : ℕ) → IsAmong v old → k ≤ v)
taken k old new e above =
    let P : List ℕ → Type 0 = λ l. IsAmong k l × ((v : ℕ) → IsAmong v l → k ≤ v) in
    subst P (sym e) (inl refl, λ v h. elim h [ inl f ↦ omega arith | inr n ↦ (let l : k < v = cmp_below k v (All-among (IsLtBy nat_cmp k) new v above n) in omega arith) ])

left : (k : ℕ) (old new : List ℕ) → old ≡ k ∷ new → All (IsLtBy nat_cmp k) new → (v : ℕ) → IsAmong v new ↔ (IsAmong v old × ¬ (k ≡ v))
left k old new e above v =
    let P : List ℕ → Type 0 = λ l. IsAmong v l in (
      λ h. (let lt : k < v = cmp_below k v (All-among (IsLtBy nat_cmp k) new v above h) in (subst P (sym e) (inr h), λ f. omega arith)),
      λ h. elim (subst P e h.0) [ inl f ↦ absurd (h.1 f) | inr n ↦ n ],
    )

none_in : (xs : List ℕ) → length xs ≡ 0 → (v : ℕ) → ¬ IsAmong v xs
none_in [] e v h = h
none_in (x ∷ xs) e v h = omega arith

module _ (old new : List ℕ) where
  pub pop_least : (r : Option ℕ) → (IsSome r ↔ (0 < length old)) → IfSome r (λ k. old ≡ k ∷ new) → IfSome r (λ k. All (IsLtBy nat_cmp k) new)
      → MatchOption r ((v : ℕ) → ¬ IsAmong v old) (λ k. IsAmong k old × ((v : ℕ) → IsAmong v old → k ≤ v))
  pop_least None is e above = let out : ¬ (0 < length old) = λ l. cc (is.1 l) in none_in old (omega arith)
  pop_least (Some k) is e above = taken k old new e above

  pub pop_rest : (r : Option ℕ) → (IsSome r ↔ (0 < length old)) → IfSome r (λ k. old ≡ k ∷ new) → IfSome r (λ k. All (IsLtBy nat_cmp k) new) → IfNone r (new ≡ old)
      → MatchOption r ((v : ℕ) → ¬ IsAmong v new) (λ k. (v : ℕ) → IsAmong v new ↔ (IsAmong v old × ¬ (k ≡ v)))
  pop_rest None is e above same =
      let P : List ℕ → Type 0 = λ l. (v : ℕ) → ¬ IsAmong v l in
      let out : ¬ (0 < length old) = λ l. cc (is.1 l) in
      subst P (sym same) (none_in old (omega arith))
  pop_rest (Some k) is e above same = left k old new e above
