-- A store that is below another holds no more places.
use Rattle.std.proofs.Common.{◌&&◌, ◌∷◌, ◌≡◌, ◌≤◌}
use Rattle.path_maps.proofs.Prelude.{[], and_parts, ap, arith, below_all, Bool, cond, Entry, EntryMap, eq_by_cmp, Equal, false, find, find_below, from_T, Greater, is_eq, is_less, is_lt, is_sorted, IsBelow, IsSome, IsStoreBelow, IsTrue, length, Less, List, None, Option, Ordering, ordering_reverse, place_cmp, place_cmp_total, PlaceParts, refl, same_place, Some, subst, sym, tied, true, ◌∙◌}
use Rattle.path_maps.proofs.Ascends.{found_entry}
use Rattle.std.specs.FinMap as finmap

abbrev Pairs : Type 0
Pairs = List (PlaceParts × Entry)

none_some : (x : Option Entry) → x ≡ None → IsSome x → ⊥
none_some x e h = let wrong = subst (λ (y : Option Entry). IsSome y) e h in cc (wrong)

-- A key below all of these entries is equal to none that is found there.
apart : (k q : PlaceParts) (es : Pairs) → IsTrue (below_all place_cmp k es) → IsSome (find place_cmp q es) → eq_by_cmp place_cmp q k ≡ true → ⊥
apart k q es b h t = none_some (find place_cmp q es) (ap (λ (p : PlaceParts). find place_cmp p es) (tied q k t) ∙ find_below place_cmp k es b) h

-- What is found, but not at the first entry, is found among the rest.
after : (q : PlaceParts) (y : PlaceParts × Entry) (ys : Pairs) (b : Bool) → eq_by_cmp place_cmp q y.0 ≡ b → (eq_by_cmp place_cmp q y.0 ≡ true → ⊥) → IsSome (cond b (Some y.1) (find place_cmp q ys)) → IsSome (find place_cmp q ys)
after q y ys true t no_tie h = absurd (no_tie t)
after q y ys false t no_tie h = h

-- What is found among the rest is found.
further : (q : PlaceParts) (x : PlaceParts × Entry) (xs : Pairs) (b : Bool) → IsSome (find place_cmp q xs) → IsSome (cond b (Some x.1) (find place_cmp q xs))
further q x xs true h = refl
further q x xs false h = h

below_further : (k : PlaceParts) (x : PlaceParts × Entry) (xs : Pairs) → place_cmp k x.0 ≡ Less → IsTrue (below_all place_cmp x.0 xs) → IsTrue (below_all place_cmp k (x ∷ xs))
below_further k x xs less b = both _ _ (ap is_lt less) (all xs b)
  where
    both : (a b : Bool) → IsTrue a → IsTrue b → IsTrue (a && b)
    both true b p q = q
    both false b p q = cc (p)

    all : (es : Pairs) → IsTrue (below_all place_cmp x.0 es) → IsTrue (below_all place_cmp k es)
    all [] h = refl
    all (e ∷ es) h = let p = and_parts _ _ h in both _ _ (ap is_lt (place_cmp_total.trans k x.0 e.0 less (is_less _ p.0))) (all es p.1)

lengths : (xs ys : Pairs) → IsTrue (is_sorted place_cmp xs) → IsTrue (is_sorted place_cmp ys) → ((q : PlaceParts) → IsSome (find place_cmp q xs) → IsSome (find place_cmp q ys)) → length xs ≤ length ys
lengths [] ys s t h = omega arith
lengths (x ∷ xs) [] s t h = absurd (none_some None refl (h x.0 (first x xs)))
  where
    first : (x : PlaceParts × Entry) (xs : Pairs) → IsSome (find place_cmp x.0 (x ∷ xs))
    first x xs = subst (λ b. IsSome (cond b (Some x.1) (find place_cmp x.0 xs))) (sym (same_place x.0)) refl
lengths (x ∷ xs) (y ∷ ys) s t h = by (place_cmp x.0 y.0) refl (lengths xs ys (and_parts (below_all place_cmp x.0 xs) _ s).1 (and_parts (below_all place_cmp y.0 ys) _ t).1) (lengths (x ∷ xs) ys s (and_parts (below_all place_cmp y.0 ys) _ t).1)
  where
    below_x : IsTrue (below_all place_cmp x.0 xs)
    below_x = (and_parts (below_all place_cmp x.0 xs) _ s).0

    below_y : IsTrue (below_all place_cmp y.0 ys)
    below_y = (and_parts (below_all place_cmp y.0 ys) _ t).0

    here : IsSome (find place_cmp x.0 (x ∷ xs))
    here = subst (λ b. IsSome (cond b (Some x.1) (find place_cmp x.0 xs))) (sym (same_place x.0)) refl

    by : (r : Ordering) → place_cmp x.0 y.0 ≡ r → (((q : PlaceParts) → IsSome (find place_cmp q xs) → IsSome (find place_cmp q ys)) → length xs ≤ length ys) → (((q : PlaceParts) → IsSome (find place_cmp q (x ∷ xs)) → IsSome (find place_cmp q ys)) → length (x ∷ xs) ≤ length ys) → length (x ∷ xs) ≤ length (y ∷ ys)
    by Less o rest all = absurd (none_some (find place_cmp x.0 (y ∷ ys)) (find_below place_cmp x.0 (y ∷ ys) (below_further x.0 y ys o below_y)) (h x.0 here))
    by Equal o rest all =
        let one = rest (λ q f. after q y ys (eq_by_cmp place_cmp q y.0) refl
        (λ e. apart x.0 q xs below_x f (ap (λ (p : PlaceParts). eq_by_cmp place_cmp p x.0) (tied q y.0 e) ∙ ap is_eq (place_cmp_total.antisymm y.0 x.0 ∙ ap ordering_reverse o)))
        (h q (further q x xs (eq_by_cmp place_cmp q x.0) f))) in
        omega (arith, one)
    by Greater o rest all =
        let less = place_cmp_total.antisymm y.0 x.0 ∙ ap ordering_reverse o in
        let more = all (λ q f. after q y ys (eq_by_cmp place_cmp q y.0) refl (λ e. apart y.0 q (x ∷ xs) (below_further y.0 x xs less below_x) f e) (h q f)) in
        omega (arith, more)

pub held_above : (x y : Option Entry) → IsBelow x y → IsSome x → IsSome y
held_above None y b h = absurd (none_some None refl h)
held_above (Some x) None b h = absurd b
held_above (Some x) (Some y) b h = refl

pub len-below : (s t : EntryMap) → IsStoreBelow s t → finmap.len s ≤ finmap.len t
len-below s t h =
    let one = lengths (finmap.entries s) (finmap.entries t) (from_T _ (finmap.entries_sorted s)) (from_T _ (finmap.entries_sorted t))
    (λ q f. subst (λ (x : Option Entry). IsSome x) (found_entry t q) (held_above (finmap.get s q) (finmap.get t q) (h q) (subst (λ (x : Option Entry). IsSome x) (sym (found_entry s q)) f))) in
    let a = finmap.len-entries s in
    let b = finmap.len-entries t in
    omega (arith, one, a, b)
