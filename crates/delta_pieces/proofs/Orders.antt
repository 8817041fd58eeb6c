-- Operations that keep pairs sorted by place.
use Rattle.std.proofs.Common.{◌&&◌, ◌++◌, ◌∷◌, ◌≡◌}
use Rattle.delta_pieces.proofs.Prelude.{[], and_from, and_parts, ap, below_all, Bool, cond, drop, false, filter, FinMap, from_T, is_lt, is_sorted, IsTrue, List, map, place_cmp, PlaceParts, refl, subst, sym, take, take-append-drop, true, ℕ}
use Rattle.std.specs.FinMap as finmap

module _ {X : Type 0} where
  pub entries_ascend : (m : FinMap place_cmp X) → IsTrue (is_sorted place_cmp (finmap.entries m))
  entries_ascend m = from_T _ (finmap.entries_sorted m)

  prefix_below : (q : PlaceParts) (xs ys : List (PlaceParts × X)) → IsTrue (below_all place_cmp q (xs ++ ys)) → IsTrue (below_all place_cmp q xs)
  prefix_below q [] ys h = refl
  prefix_below q (x ∷ xs) ys h = and_from _ _ (and_parts _ _ h).0 (prefix_below q xs ys (and_parts _ _ h).1)

  prefix_ascends : (xs ys : List (PlaceParts × X)) → IsTrue (is_sorted place_cmp (xs ++ ys)) → IsTrue (is_sorted place_cmp xs)
  prefix_ascends [] ys s = refl
  prefix_ascends (x ∷ xs) ys s =
      and_from _ _ (prefix_below x.0 xs ys (and_parts _ _ s).0) (prefix_ascends xs ys (and_parts (below_all place_cmp x.0 (xs ++ ys)) _ s).1)

  back_ascends : (xs ys : List (PlaceParts × X)) → IsTrue (is_sorted place_cmp (xs ++ ys)) → IsTrue (is_sorted place_cmp ys)
  back_ascends [] ys s = s
  back_ascends (x ∷ xs) ys s = back_ascends xs ys (and_parts (below_all place_cmp x.0 (xs ++ ys)) _ s).1

  whole : (n : ℕ) (es : List (PlaceParts × X)) → IsTrue (is_sorted place_cmp es) → IsTrue (is_sorted place_cmp (take n es ++ drop n es))
  whole n es s = subst (λ (l : List (PlaceParts × X)). IsTrue (is_sorted place_cmp l)) (sym (take-append-drop n es)) s

  -- taking the first pairs, or the others
  pub take_ascends : (n : ℕ) (es : List (PlaceParts × X)) → IsTrue (is_sorted place_cmp es) → IsTrue (is_sorted place_cmp (take n es))
  take_ascends n es s = prefix_ascends (take n es) (drop n es) (whole n es s)

  pub drop_ascends : (n : ℕ) (es : List (PlaceParts × X)) → IsTrue (is_sorted place_cmp es) → IsTrue (is_sorted place_cmp (drop n es))
  drop_ascends n es s = back_ascends (take n es) (drop n es) (whole n es s)

  filter_below : (p : PlaceParts × X → Bool) (q : PlaceParts) (es : List (PlaceParts × X)) → IsTrue (below_all place_cmp q es) → IsTrue (below_all place_cmp q (filter p es))
  filter_below p q [] h = refl
  filter_below p q (e ∷ es) h =
      let rest = filter_below p q es (and_parts _ _ h).1 in
      elim (p e) as (λ b. IsTrue (below_all place_cmp q (cond b (e ∷ filter p es) (filter p es)))) [
        | true ↦ and_from _ _ (and_parts _ _ h).0 rest
        | false ↦ rest
      ]

  -- leaving pairs out
  pub filter_ascends : (p : PlaceParts × X → Bool) (es : List (PlaceParts × X)) → IsTrue (is_sorted place_cmp es) → IsTrue (is_sorted place_cmp (filter p es))
  filter_ascends p [] s = refl
  filter_ascends p (e ∷ es) s =
      let rest = filter_ascends p es (and_parts (below_all place_cmp e.0 es) _ s).1 in
      elim (p e) as (λ b. IsTrue (is_sorted place_cmp (cond b (e ∷ filter p es) (filter p es)))) [
        | true ↦ and_from _ _ (filter_below p e.0 es (and_parts _ _ s).0) rest
        | false ↦ rest
      ]

module _ {X Y : Type 0} (f : X → Y) where
  map_below : (q : PlaceParts) (es : List (PlaceParts × X)) → below_all place_cmp q (map (λ p. (p.0, f p.1)) es) ≡ below_all place_cmp q es
  map_below q [] = refl
  map_below q (e ∷ es) = ap (λ b. is_lt (place_cmp q e.0) && b) (map_below q es)

  -- changing the values at the same places
  pub map_ascends : (es : List (PlaceParts × X)) → is_sorted place_cmp (map (λ p. (p.0, f p.1)) es) ≡ is_sorted place_cmp es
  map_ascends [] = refl
  map_ascends (e ∷ es) = λ i. map_below e.0 es i && map_ascends es i
