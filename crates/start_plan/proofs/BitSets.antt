-- Sets of units.
use Rattle.std.proofs.Common.{◌++◌, ◌<◌, ◌↔◌, ◌∷◌, ◌≡◌, ◌⊎◌}
use Rattle.start_plan.proofs.Prelude.{[], ap, AreBitsBy, AreMade, AreNames, arith, Bool, count_of, false, get_or, inl, inr, is_sorted, IsAmong, IsAmong-append_left, IsAmong-append_right, IsAmong-push_cases, IsIndexFor, IsKnown, IsMember, IsMember-set, IsMember-set_other, IsMember-set_same, IsMember-within, IsTrue, length, List, load_indexing, LoadedUnit, LoadMap, Name, name_at, name_cmp, NameLoad, nat_list_cmp_total, None, one_index, Option, refl, set, Some, subst, sym, true, unit_at, unit_in, unit_index, unit_part, ℕ, ◌∙◌}

-- what is loaded at a position is the unit of its name
module _ (load : LoadMap) (es : List (Name × NameLoad)) (same : es ≡ load.names) (sorted : IsTrue (is_sorted name_cmp es)) where
  in_order : IsTrue (is_sorted name_cmp load.names)
  in_order = let P : List (Name × NameLoad) → Type 0 = λ ns. IsTrue (is_sorted name_cmp ns) in subst P same sorted

  pub part_at : (i : ℕ) (p : Name × NameLoad) → i < length es → unit_in load (name_at load i) ≡ unit_part (get_or es i p).1
  part_at i p l =
      let P : List (Name × NameLoad) → Type 0 = λ ns. i < length ns in
      unit_at load in_order i p (subst P same l) ∙ ap (λ ns. unit_part (get_or ns i p).1) (sym same)

  pub one_index_for : (name : Name) (i j : ℕ) → IsIndexFor load name i → IsIndexFor load name j → i ≡ j
  one_index_for name i j p q =
      let e : Some p.main ≡ Some q.main = sym p.stands.main_is ∙ q.stands.main_is in
      let main : p.main ≡ q.main = cc (e) in
      one_index (count_of load) (name_at load) name_cmp nat_list_cmp_total (load_indexing load in_order) i j p.index_is.below q.index_is.below
      (p.index_is.named ∙ main ∙ sym q.index_is.named)

  -- one more name was read
  module _ (old new : List Name) (x : Name) (more : new ≡ old ++ x ∷ []) (bits : List Bool)
      (member : (i : ℕ) → IsMember bits i ↔ ((n : Name) × IsAmong n old × IsIndexFor load n i)) where
    among_still : (n : Name) → IsAmong n old → IsAmong n new
    among_still n h = let P : List Name → Type 0 = λ l. IsAmong n l in subst P (sym more) (IsAmong-append_left n old (x ∷ []) h)

    among_cases : (n : Name) → IsAmong n new → IsAmong n old ⊎ (x ≡ n)
    among_cases n h = let P : List Name → Type 0 = λ l. IsAmong n l in IsAmong-push_cases x n old (subst P more h)

    pub name_member : (ms : List Bool) (k : ℕ) → k < length bits → IsIndexFor load x k → ms ≡ set bits k true
        → (i : ℕ) → IsMember ms i ↔ ((n : Name) × IsAmong n new × IsIndexFor load n i)
    name_member ms k l index e i = (there, back)
      where
        there : IsMember ms i → (n : Name) × IsAmong n new × IsIndexFor load n i
        there m =
            let P : List Bool → Type 0 = λ v. IsMember v i in
            elim (IsMember-set bits k i l (subst P e m)) [
              | inl h ↦ (let r = (member i).0 h in (r.0, among_still r.0 r.1, r.2))
              | inr s ↦ (let Q : List Name → Type 0 = λ v. IsAmong x v in
                  (x, subst Q (sym more) (IsAmong-append_right x old (x ∷ []) (inl refl)), subst (IsIndexFor load x) s index))
            ]

        back : (n : Name) × IsAmong n new × IsIndexFor load n i → IsMember ms i
        back r =
            let P : List Bool → Type 0 = λ v. IsMember v i in
            subst P (sym e) (elim (among_cases r.0 r.1) [
              | inl h ↦ IsMember-set_other bits k i ((member i).1 (r.0, h, r.2))
              | inr s ↦ (let Q : Name → Type 0 = λ v. IsIndexFor load v i in
                  let one : k ≡ i = one_index_for x k i index (subst Q (sym s) r.2) in
                  let R : ℕ → Type 0 = λ v. IsMember (set bits k true) v in
                  subst R one (IsMember-set_same bits k l))
            ])

    pub name_passed : (ms : List Bool) → ¬ IsKnown load x → ms ≡ bits → (i : ℕ) → IsMember ms i ↔ ((n : Name) × IsAmong n new × IsIndexFor load n i)
    name_passed ms none e i = (there, back)
      where
        there : IsMember ms i → (n : Name) × IsAmong n new × IsIndexFor load n i
        there m =
            let P : List Bool → Type 0 = λ v. IsMember v i in
            let r = (member i).0 (subst P e m) in
            (r.0, among_still r.0 r.1, r.2)

        back : (n : Name) × IsAmong n new × IsIndexFor load n i → IsMember ms i
        back r =
            let P : List Bool → Type 0 = λ v. IsMember v i in
            subst P (sym e) (elim (among_cases r.0 r.1) [
              | inl h ↦ (member i).1 (r.0, h, r.2)
              | inr s ↦ (let Q : Name → Type 0 = λ v. IsKnown load v in absurd (none (subst Q (sym s) (r.2.main, r.2.stands))))
            ])

-- bits that were made one by one
pub bits_made : (load : LoadMap) (es : List (Name × NameLoad)) → es ≡ load.names → (test : Option LoadedUnit → Bool) (i : ℕ) (bits : List Bool) → i ≡ length es
    → AreMade (λ k b. b ≡ test (unit_in load (name_at load k))) i bits → AreBitsBy load test bits
bits_made load es same test i bits end made = record {
  units = made.count ∙ all;
  each = λ k d l. made.each k d (subst (λ (n : ℕ). k < n) (sym all) l);
}
  where
    all : i ≡ count_of load
    all = end ∙ ap length same

-- a set by a test, by name
pub bits_named : (load : LoadMap) (test : Option LoadedUnit → Bool) → test None ≡ false → (bits : List Bool) → AreBitsBy load test bits
    → AreNames (count_of load) (name_at load) (IsMember bits) (λ u. IsTrue (test (unit_in load u)))
bits_named load test none bits a = record { within = within; named = named; indexed = indexed }
  where
    within : (i : ℕ) → IsMember bits i → i < count_of load
    within i m = let l = IsMember-within bits i m in omega (arith, l, a.units)

    named : (i : ℕ) → IsMember bits i → IsTrue (test (unit_in load (name_at load i)))
    named i m = let P : Bool → Type 0 = λ b. IsTrue b in subst P (a.each i false (within i m)) m

    indexed : (u : Name) → IsTrue (test (unit_in load u)) → (i : ℕ) × (IsMember bits i × (name_at load i ≡ u))
    indexed u h = by (unit_in load u) refl
      where
        by : (o : Option LoadedUnit) → unit_in load u ≡ o → (i : ℕ) × (IsMember bits i × (name_at load i ≡ u))
        by None e = let f : false ≡ true = sym none ∙ sym (ap test e) ∙ h in cc (f)
        by (Some unit) e =
            let r = unit_index load u (unit, e) in
            let P : Bool → Type 0 = λ b. IsTrue b in
            let Q : Name → Type 0 = λ v. IsTrue (test (unit_in load v)) in
            (r.0, (subst P (sym (a.each r.0 false r.1.0)) (subst Q (sym r.1.1) h), r.1.1))
