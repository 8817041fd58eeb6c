-- The places of the entries that pass a test: in place order, and exactly those at which what is found passes.
use Rattle.std.proofs.Common.{◌∷◌, ◌≡◌}
use Rattle.path_maps.proofs.Prelude.{[], AllByRecursion, and_parts, ap, below_all, Bool, cond, eq_by_cmp, false, filter, find, find_below, inl, inr, is_less, is_sorted, IsAmong, IsStrictlySortedBy, IsTrue, Less, List, map, None, Option, place_cmp, PlaceParts, refl, same_place, Some, subst, sym, tied, true, ◌∙◌}

abbrev pub IsAbove : {X : Type 0} → PlaceParts → List (PlaceParts × X) → Type 0
IsAbove k es = IsTrue (below_all place_cmp k es)

abbrev pub AreSorted : {X : Type 0} → List (PlaceParts × X) → Type 0
AreSorted es = IsTrue (is_sorted place_cmp es)

module _ {X : Type 0} (test : PlaceParts × X → Bool) where
  abbrev pub passing : List (PlaceParts × X) → List PlaceParts
  passing es = map (λ e. e.0) (filter test es)

  -- With one more entry at the start.
  module _ (e : PlaceParts × X) (es : List (PlaceParts × X)) where
    abbrev passing_with : Bool → List PlaceParts
    passing_with b = map (λ (r : PlaceParts × X). r.0) (cond b (e ∷ filter test es) (filter test es))

    further : (q : PlaceParts) (b : Bool) → IsAmong q (passing es) → IsAmong q (passing_with b)
    further q true a = inr a
    further q false a = a

    first_there : (q : PlaceParts) (b : Bool) → b ≡ true → e.0 ≡ q → IsAmong q (passing_with b)
    first_there q true t h = inl h
    first_there q false t h = cc (t)

  -- ---- in place order

  above_passing : (k : PlaceParts) (es : List (PlaceParts × X)) → IsAbove k es → AllByRecursion (λ l. place_cmp k l ≡ Less) (passing es)
  above_passing k [] h = tt
  above_passing k (e ∷ es) h =
      let p = and_parts _ _ h in
      let rest = above_passing k es p.1 in
      elim (test e) as (λ b. AllByRecursion (λ l. place_cmp k l ≡ Less) (passing_with e es b)) [
        | true ↦ (is_less _ p.0, rest)
        | false ↦ rest
      ]

  pub passing_ascends : (es : List (PlaceParts × X)) → AreSorted es → IsStrictlySortedBy place_cmp (passing es)
  unfolding IsStrictlySortedBy
  passing_ascends [] h = tt
  passing_ascends (e ∷ es) h =
      let p = and_parts _ _ h in
      let rest = passing_ascends es p.1 in
      elim (test e) as (λ b. IsStrictlySortedBy place_cmp (passing_with e es b)) [
        | true ↦ (above_passing e.0 es p.0, rest)
        | false ↦ rest
      ]

  -- ---- what is found

  module _ (q : PlaceParts) where
    abbrev pub passes : Option X → Bool
    passes None = false
    passes (Some x) = test (q, x)

    abbrev found_with : PlaceParts × X → List (PlaceParts × X) → Bool → Bool
    found_with e es b = passes (cond b (Some e.1) (find place_cmp q es))

    pub there : (es : List (PlaceParts × X)) → passes (find place_cmp q es) ≡ true → IsAmong q (passing es)
    there [] h = cc (h)
    there (e ∷ es) h = by (eq_by_cmp place_cmp q e.0) refl h (there es)
      where
        by : (b : Bool) → eq_by_cmp place_cmp q e.0 ≡ b → found_with e es b ≡ true
            → (passes (find place_cmp q es) ≡ true → IsAmong q (passing es)) → IsAmong q (passing_with e es (test e))
        by true t h more = first_there e es q (test e) (ap (λ (k : PlaceParts). test (k, e.1)) (sym (tied q e.0 t)) ∙ h) (sym (tied q e.0 t))
        by false t h more = further e es q (test e) (more h)

    pub back : (es : List (PlaceParts × X)) → AreSorted es → IsAmong q (passing es) → passes (find place_cmp q es) ≡ true
    back [] s a = absurd a
    back (e ∷ es) sorted a = by (test e) refl a (back es p.1)
      where
        p : IsAbove e.0 es × AreSorted es
        p = and_parts _ _ sorted

        after : passes (find place_cmp q es) ≡ true → (b : Bool) → eq_by_cmp place_cmp q e.0 ≡ b → found_with e es b ≡ true
        after h true t =
            let none = ap passes (find_below place_cmp q es (subst (λ k. IsAbove k es) (sym (tied q e.0 t)) p.0)) in
            let wrong : false ≡ true = sym none ∙ h in cc (wrong)
        after h false t = h

        by : (b : Bool) → test e ≡ b → IsAmong q (passing_with e es b)
            → (IsAmong q (passing es) → passes (find place_cmp q es) ≡ true) → found_with e es (eq_by_cmp place_cmp q e.0) ≡ true
        by true d (inl h) more =
            ap (found_with e es) (ap (λ k. eq_by_cmp place_cmp k e.0) (sym h) ∙ same_place e.0) ∙ ap (λ (k : PlaceParts). test (k, e.1)) (sym h) ∙ d
        by true d (inr a) more = after (more a) (eq_by_cmp place_cmp q e.0) refl
        by false d a more = after (more a) (eq_by_cmp place_cmp q e.0) refl

pub none_among : (ps : List PlaceParts) → ((q : PlaceParts) → IsAmong q ps → ⊥) → ps ≡ []
none_among [] none = refl
none_among (p ∷ ps) none = absurd (none p (inl refl))
