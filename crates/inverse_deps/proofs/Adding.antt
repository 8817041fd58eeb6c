-- Rows to which dependencies are added, and what that says of names.
use Rattle.std.proofs.Common.{◌++◌, ◌<◌, ◌↔◌, ◌∷◌, ◌≡◌, ◌⊎◌}
use Rattle.inverse_deps.proofs.Prelude.{[], AreMade, AreNames, AreRowsBy, count_of, dependency, Dependency, DepKind, get_or, HasAdded, HasKind, inl, inr, IsAmong, IsAmong-append_cases, IsAmong-append_left, IsAmong-append_right, List, LoadMap, Name, name_at, refl, subst, sym, ℕ}

-- nothing is added
pub added_none : (P : Dependency → Type 0) (old row : List Dependency) → row ≡ old → ((one : Dependency) → ¬ P one) → HasAdded old P row
added_none P old row e none = record { just = λ one. (λ h. inl (subst (IsAmong one) e h), back one) }
  where
    back : (one : Dependency) → IsAmong one old ⊎ P one → IsAmong one row
    back one (inl h) = subst (IsAmong one) (sym e) h
    back one (inr p) = absurd (none one p)

-- those of a list are added
pub added_list : (P : Dependency → Type 0) (old more row : List Dependency) → row ≡ old ++ more → ((one : Dependency) → IsAmong one more ↔ P one) → HasAdded old P row
added_list P old more row e same = record { just = λ one. (λ h. there one (IsAmong-append_cases one old more (subst (IsAmong one) e h)), λ h. subst (IsAmong one) (sym e) (back one h)) }
  where
    there : (one : Dependency) → IsAmong one old ⊎ IsAmong one more → IsAmong one old ⊎ P one
    there one (inl a) = inl a
    there one (inr b) = inr ((same one).0 b)

    back : (one : Dependency) → IsAmong one old ⊎ P one → IsAmong one (old ++ more)
    back one (inl a) = IsAmong-append_left one old more a
    back one (inr p) = IsAmong-append_right one old more ((same one).1 p)

-- one is added
pub added_one : (x : Dependency) (old row : List Dependency) → row ≡ old ++ x ∷ [] → HasAdded old (λ one. x ≡ one) row
added_one x old row e = added_list (λ one. x ≡ one) old (x ∷ []) row e (λ one. (λ h. only one h, λ h. inl h))
  where
    only : (one : Dependency) → IsAmong one (x ∷ []) → x ≡ one
    only one (inl h) = h
    only one (inr n) = absurd n

-- first some and then others
pub added_both : (P Q R : Dependency → Type 0) (old next row : List Dependency) → HasAdded old P next → HasAdded next Q row → ((one : Dependency) → R one ↔ (P one ⊎ Q one)) → HasAdded old R row
added_both P Q R old next row a b same = record { just = λ one. (λ h. there one ((b.just one).0 h), back one) }
  where
    there : (one : Dependency) → IsAmong one next ⊎ Q one → IsAmong one old ⊎ R one
    there one (inl h) = elim ((a.just one).0 h) [ inl o ↦ inl o | inr p ↦ inr ((same one).1 (inl p)) ]
    there one (inr q) = inr ((same one).1 (inr q))

    back : (one : Dependency) → IsAmong one old ⊎ R one → IsAmong one row
    back one (inl o) = (b.just one).1 (inl ((a.just one).1 (inl o)))
    back one (inr r) = elim ((same one).0 r) [ inl p ↦ (b.just one).1 (inl ((a.just one).1 (inr p))) | inr q ↦ (b.just one).1 (inr q) ]

-- Rows by a relation, to which dependencies by another are added, are rows by both.
module _ (load : LoadMap) (L X : DepKind → Name → Name → Type 0) (old rows : List (List Dependency)) (are : AreRowsBy load L old) (A : ℕ → Dependency → Type 0)
    (made : AreMade (λ i row. HasAdded (get_or old i []) (A i) row) (count_of load) rows)
    (there : (i : ℕ) → i < count_of load → (one : Dependency) → A i one → (one.index < count_of load) × X one.kind (name_at load i) (name_at load one.index))
    (back : (i : ℕ) → i < count_of load → (dep : DepKind) (v : Name) → X dep (name_at load i) v → (j : ℕ) × (A i (dependency dep j) × (name_at load j ≡ v))) where
  module _ (dep : DepKind) (i : ℕ) (below : i < count_of load) where
    row : HasAdded (get_or old i []) (A i) (get_or rows i [])
    row = made.each i [] below

    before : AreNames (count_of load) (name_at load) (HasKind (get_or old i []) dep) (L dep (name_at load i))
    before = are.named dep i below

    pub both_named : AreNames (count_of load) (name_at load) (HasKind (get_or rows i []) dep) (λ v. L dep (name_at load i) v ⊎ X dep (name_at load i) v)
    both_named = record { within = within; named = named; indexed = indexed }
      where
        within : (j : ℕ) → HasKind (get_or rows i []) dep j → j < count_of load
        within j k = elim ((row.just k.one).0 k.there) [
          | inl h ↦ before.within j (record { one = k.one; there = h; kind_is = k.kind_is; index_is = k.index_is })
          | inr a ↦ subst (λ (n : ℕ). n < count_of load) k.index_is (there i below k.one a).0
        ]

        named : (j : ℕ) → HasKind (get_or rows i []) dep j → L dep (name_at load i) (name_at load j) ⊎ X dep (name_at load i) (name_at load j)
        named j k = elim ((row.just k.one).0 k.there) [
          | inl h ↦ inl (before.named j (record { one = k.one; there = h; kind_is = k.kind_is; index_is = k.index_is }))
          | inr a ↦ inr (subst (λ (n : ℕ). X dep (name_at load i) (name_at load n)) k.index_is (subst (λ (d : DepKind). X d (name_at load i) (name_at load k.one.index)) k.kind_is (there i below k.one a).1))
        ]

        indexed : (v : Name) → L dep (name_at load i) v ⊎ X dep (name_at load i) v → (j : ℕ) × (HasKind (get_or rows i []) dep j × (name_at load j ≡ v))
        indexed v (inl h) =
            let r = before.indexed v h in
            let k = r.1.0 in
            (r.0, (record { one = k.one; there = (row.just k.one).1 (inl k.there); kind_is = k.kind_is; index_is = k.index_is }, r.1.1))
        indexed v (inr h) =
            let r = back i below dep v h in
            (r.0, (record { one = dependency dep r.0; there = (row.just (dependency dep r.0)).1 (inr r.1.0); kind_is = refl; index_is = refl }, r.1.1))

  pub rows_added : AreRowsBy load (λ dep u v. L dep u v ⊎ X dep u v) rows
  rows_added = record { sorted = are.sorted; one_each = made.count; named = both_named }

-- the same rows by an equal relation
pub rows_along : (load : LoadMap) (L M : DepKind → Name → Name → Type 0) (rows : List (List Dependency)) → ((dep : DepKind) (u v : Name) → L dep u v ↔ M dep u v) → AreRowsBy load L rows → AreRowsBy load M rows
rows_along load L M rows same are = record {
  sorted = are.sorted;
  one_each = are.one_each;
  named = λ dep i below. (let n = are.named dep i below in
      record {
        within = n.within;
        named = λ j k. (same dep (name_at load i) (name_at load j)).0 (n.named j k);
        indexed = λ v h. n.indexed v ((same dep (name_at load i) v).1 h);
      });
}
