-- The indices of the dependencies of a kind, as far as dependencies were read.
use Rattle.std.proofs.Common.{◌++◌, ◌∷◌, ◌≡◌, ◌⊎◌}
use Rattle.inverse_deps.proofs.Prelude.{[], ap, AreIndicesBy, Before, Dependency, DepKind, HasKind, inl, inr, IsAmong, IsAmong-append_left, IsAmong-append_right, IsAmong-push, IsAmong-push_cases, List, subst, sym, ℕ, ◌∙◌}

-- the default dependency
abbrev pub no_dependency : Dependency
no_dependency = record { kind = Before; index = 0 }

-- nothing was read yet
pub none_read : (dep : DepKind) (is : List ℕ) → is ≡ [] → AreIndicesBy [] dep is
none_read dep is e i = (λ h. (let P : List ℕ → Type 0 = λ l. IsAmong i l in absurd (subst P e h)), λ h. absurd h.there)

-- one more was read
module _ (dep : DepKind) (old new : List Dependency) (x : Dependency) (more : new ≡ old ++ x ∷ []) (is : List ℕ) (h : AreIndicesBy old dep is) where
  still : (i : ℕ) → HasKind old dep i → HasKind new dep i
  still i k =
      let P : List Dependency → Type 0 = λ l. IsAmong k.one l in
      record { one = k.one; there = subst P (sym more) (IsAmong-append_left k.one old (x ∷ []) k.there); kind_is = k.kind_is; index_is = k.index_is }

  here : (i : ℕ) → x.kind ≡ dep → x.index ≡ i → HasKind new dep i
  here i e f =
      let P : List Dependency → Type 0 = λ l. IsAmong x l in
      record { one = x; there = subst P (sym more) (IsAmong-push x old); kind_is = e; index_is = f }

  either : (i : ℕ) → HasKind new dep i → HasKind old dep i ⊎ ((x.kind ≡ dep) × (x.index ≡ i))
  either i k =
      let P : List Dependency → Type 0 = λ l. IsAmong k.one l in
      elim (IsAmong-push_cases x k.one old (subst P more k.there)) [
        | inl a ↦ inl (record { one = k.one; there = a; kind_is = k.kind_is; index_is = k.index_is })
        | inr e ↦ inr (ap (λ (d : Dependency). d.kind) e ∙ k.kind_is, ap (λ (d : Dependency). d.index) e ∙ k.index_is)
      ]

  pub index_read : (js : List ℕ) → x.kind ≡ dep → js ≡ is ++ x.index ∷ [] → AreIndicesBy new dep js
  index_read js e f i = (there, back)
    where
      there : IsAmong i js → HasKind new dep i
      there a =
          let P : List ℕ → Type 0 = λ l. IsAmong i l in
          elim (IsAmong-push_cases x.index i is (subst P f a)) [ inl b ↦ still i ((h i).0 b) | inr g ↦ here i e g ]

      back : HasKind new dep i → IsAmong i js
      back k =
          let P : List ℕ → Type 0 = λ l. IsAmong i l in
          elim (either i k) [
            | inl o ↦ subst P (sym f) (IsAmong-append_left i is (x.index ∷ []) ((h i).1 o))
            | inr n ↦ subst P (sym f) (IsAmong-append_right i is (x.index ∷ []) (inl n.1))
          ]

  pub index_passed : (js : List ℕ) → ¬ (x.kind ≡ dep) → js ≡ is → AreIndicesBy new dep js
  index_passed js other f i = (there, back)
    where
      there : IsAmong i js → HasKind new dep i
      there a = let P : List ℕ → Type 0 = λ l. IsAmong i l in still i ((h i).0 (subst P f a))

      back : HasKind new dep i → IsAmong i js
      back k =
          let P : List ℕ → Type 0 = λ l. IsAmong i l in
          elim (either i k) [ inl o ↦ subst P (sym f) ((h i).1 o) | inr n ↦ absurd (other n.0) ]
