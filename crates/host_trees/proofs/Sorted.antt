-- Lists of paths in ascending order, each with something, and what is found in them.
use Rattle.std.proofs.Common.{◌&&◌, ◌∷◌, ◌≡◌}
use Rattle.host_trees.proofs.Prelude.{[], AllByRecursion, and_parts, ap, below_all, Bool, cond, cons_option, eq_by_cmp, filter_map, find, find_below, inl, inr, is_eq, is_equal, is_less, is_lt, is_sorted, IsAmong, IsStrictlySortedBy, IsTrue, Less, List, map, None, Option, option_and_then, option_map, path_cmp, path_cmp-IsAntisymmetric, path_cmp_total, PathParts, refl, same_Some, Some, subst, sym, tied_itself, true, false, ◌∙◌}

pub both : (a b : Bool) → IsTrue a → IsTrue b → IsTrue (a && b)
both true b p q = q
both false b p q = cc (p)

-- Paths that tie are equal.
pub tied : (p q : PathParts) → eq_by_cmp path_cmp p q ≡ true → p ≡ q
tied p q t = path_cmp-IsAntisymmetric p q (is_equal _ t)

pub same_path : (p : PathParts) → eq_by_cmp path_cmp p p ≡ true
same_path p = ap is_eq (tied_itself path_cmp_total p)

-- The path is below each in the list; the paths are in ascending order.
abbrev pub IsAbove : {X : Type 0} → PathParts → List (PathParts × X) → Type 0
IsAbove k es = IsTrue (below_all path_cmp k es)

abbrev pub AreSorted : {X : Type 0} → List (PathParts × X) → Type 0
AreSorted es = IsTrue (is_sorted path_cmp es)

-- Nothing is found at a path that is below all.
pub none_found : {X : Type 0} (p k : PathParts) (es : List (PathParts × X)) → IsAbove k es → eq_by_cmp path_cmp p k ≡ true → find path_cmp p es ≡ None
none_found p k es above t = find_below path_cmp p es (subst (λ l. IsAbove l es) (sym (tied p k t)) above)

-- ---- what is in the list

module _ {X : Type 0} where
  all_above : (k : PathParts) (es : List (PathParts × X)) → IsAbove k es → AllByRecursion (λ l. path_cmp k l ≡ Less) (map (λ e. e.0) es)
  all_above k [] h = tt
  all_above k (e ∷ es) h = let p = and_parts _ _ h in (is_less _ p.0, all_above k es p.1)

  pub ascending : (es : List (PathParts × X)) → AreSorted es → IsStrictlySortedBy path_cmp (map (λ e. e.0) es)
  unfolding IsStrictlySortedBy
  ascending [] h = tt
  ascending (e ∷ es) h = let p = and_parts _ _ h in (all_above e.0 es p.0, ascending es p.1)

  module _ (p : PathParts) (x : X) where
    pub among_found : (es : List (PathParts × X)) → find path_cmp p es ≡ Some x → IsAmong (p, x) es
    among_found [] h = cc (h)
    among_found (e ∷ es) h = by (eq_by_cmp path_cmp p e.0) refl h (among_found es)
      where
        by : (b : Bool) → eq_by_cmp path_cmp p e.0 ≡ b → cond b (Some e.1) (find path_cmp p es) ≡ Some x
            → (find path_cmp p es ≡ Some x → IsAmong (p, x) es) → IsAmong (p, x) (e ∷ es)
        by true t k more = inl (λ i. (sym (tied p e.0 t) i, same_Some _ _ k i))
        by false t k more = inr (more k)

    pub found_among : (es : List (PathParts × X)) → AreSorted es → IsAmong (p, x) es → find path_cmp p es ≡ Some x
    found_among [] sorted a = absurd a
    found_among (e ∷ es) sorted (inl h) =
        ap (λ b. cond b (Some e.1) (find path_cmp p es)) (ap (λ (r : PathParts × X). eq_by_cmp path_cmp p r.0) h ∙ same_path p)
        ∙ ap (λ (r : PathParts × X). Some r.1) h
    found_among (e ∷ es) sorted (inr a) = by (eq_by_cmp path_cmp p e.0) refl (found_among es parts.1 a)
      where
        parts : IsAbove e.0 es × AreSorted es
        parts = and_parts _ _ sorted

        by : (b : Bool) → eq_by_cmp path_cmp p e.0 ≡ b → find path_cmp p es ≡ Some x → cond b (Some e.1) (find path_cmp p es) ≡ Some x
        by true t f = let wrong = sym (none_found p e.0 es parts.0 t) ∙ f in cc (wrong)
        by false t f = f

-- ---- where some are left out, and the others are given something else

module _ {X Y : Type 0} (give : PathParts → X → Option Y) where
  abbrev pub giving : PathParts × X → Option (PathParts × Y)
  giving e = option_map (λ y. (e.0, y)) (give e.0 e.1)

  abbrev pub given : List (PathParts × X) → List (PathParts × Y)
  given = filter_map giving

  above_given : (k : PathParts) (es : List (PathParts × X)) → IsAbove k es → IsAbove k (given es)
  above_given k [] h = refl
  above_given k (e ∷ es) h = by (give e.0 e.1) (above_given k es parts.1)
    where
      parts : IsTrue (is_lt (path_cmp k e.0)) × IsAbove k es
      parts = and_parts _ _ h

      by : (o : Option Y) → IsAbove k (given es) → IsAbove k (cons_option (option_map (λ y. (e.0, y)) o) (given es))
      by None a = a
      by (Some y) a = both _ _ parts.0 a

  pub sorted_given : (es : List (PathParts × X)) → AreSorted es → AreSorted (given es)
  sorted_given [] h = refl
  sorted_given (e ∷ es) h = by (give e.0 e.1) (sorted_given es parts.1)
    where
      parts : IsAbove e.0 es × AreSorted es
      parts = and_parts _ _ h

      by : (o : Option Y) → AreSorted (given es) → AreSorted (cons_option (option_map (λ y. (e.0, y)) o) (given es))
      by None a = a
      by (Some y) a = both _ _ (above_given e.0 es parts.0) a

  -- At each path it has what is given there.
  pub found_given : (p : PathParts) (es : List (PathParts × X)) → AreSorted es → find path_cmp p (given es) ≡ option_and_then (give p) (find path_cmp p es)
  found_given p [] h = refl
  found_given p (e ∷ es) h = by (give e.0 e.1) refl (eq_by_cmp path_cmp p e.0) refl (found_given p es parts.1)
    where
      parts : IsAbove e.0 es × AreSorted es
      parts = and_parts _ _ h

      here : eq_by_cmp path_cmp p e.0 ≡ true → give p e.1 ≡ give e.0 e.1
      here t = ap (λ k. give k e.1) (tied p e.0 t)

      by : (o : Option Y) → give e.0 e.1 ≡ o → (b : Bool) → eq_by_cmp path_cmp p e.0 ≡ b
          → find path_cmp p (given es) ≡ option_and_then (give p) (find path_cmp p es)
          → find path_cmp p (cons_option (option_map (λ y. (e.0, y)) o) (given es)) ≡ option_and_then (give p) (cond b (Some e.1) (find path_cmp p es))
      by None g true t rest = rest ∙ ap (option_and_then (give p)) (none_found p e.0 es parts.0 t) ∙ sym (here t ∙ g)
      by None g false t rest = rest
      by (Some y) g true t rest = ap (λ b. cond b (Some y) (find path_cmp p (given es))) t ∙ sym (here t ∙ g)
      by (Some y) g false t rest = ap (λ b. cond b (Some y) (find path_cmp p (given es))) t ∙ rest
