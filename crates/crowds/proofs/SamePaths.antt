-- Lists of edits at the same paths give stores with the same number of paths.
use Rattle.std.proofs.Common.{◌&&◌, ◌∷◌, ◌≡◌}
use Rattle.crowds.proofs.Prelude.{[], ap, below_all, Bool, cond, Edit, edit_of, Entry, entry_of, EntryMap, eq_by_cmp, false, find, FinMap, get-sum_of, greatest_at, greatest_at-above, greatest_at-found, is_lt, is_some, is_sorted, IsAmong, IsBelow, length, length-map, List, map, None, Option, place_cmp, place_cmp-IsAntisymmetric, place_cmp_total, PlaceParts, refl, Some, subst, sum_of, sym, T, true, ◌∙◌}
use Rattle.std.specs.FinMap as finmap

-- the entries without their contents
bare : List (PlaceParts × Entry) → List (PlaceParts × Unit {0})
bare es = map (λ e. (e.0, tt)) es

below_bare : (q : PlaceParts) (es : List (PlaceParts × Entry)) → below_all place_cmp q (bare es) ≡ below_all place_cmp q es
unfolding bare
below_bare q [] = refl
below_bare q (e ∷ es) = ap (λ b. is_lt (place_cmp q e.0) && b) (below_bare q es)

sorted_bare : (es : List (PlaceParts × Entry)) → is_sorted place_cmp (bare es) ≡ is_sorted place_cmp es
unfolding bare
sorted_bare [] = refl
sorted_bare (e ∷ es) = ap (λ b. b && is_sorted place_cmp (bare es)) (below_bare e.0 es) ∙ ap (λ b. below_all place_cmp e.0 es && b) (sorted_bare es)

find_bare : (q : PlaceParts) (es : List (PlaceParts × Entry)) → find place_cmp q (bare es) ≡ cond (is_some (find place_cmp q es)) (Some tt) None
unfolding bare
find_bare q [] = refl
find_bare q (e ∷ es) =
    elim (eq_by_cmp place_cmp q e.0) as (λ b. cond b (Some tt) (find place_cmp q (bare es)) ≡ cond (is_some (cond b (Some e.1) (find place_cmp q es))) (Some tt) None) [ true ↦ refl | false ↦ find_bare q es ]

bared : EntryMap → FinMap place_cmp (Unit {0})
bared s = finmap.from_sorted (bare (finmap.entries s))

bare_sorted : (s : EntryMap) → T (is_sorted place_cmp (bare (finmap.entries s)))
bare_sorted s = subst T (sym (sorted_bare (finmap.entries s))) (finmap.entries_sorted s)

get_bared : (s : EntryMap) (q : PlaceParts) → finmap.get (bared s) q ≡ cond (is_some (finmap.get s q)) (Some tt) None
unfolding bared
get_bared s q =
    finmap.get-from_sorted place_cmp (bare (finmap.entries s)) q (bare_sorted s) ∙ find_bare q (finmap.entries s)
    ∙ ap (λ o. cond (is_some o) (Some tt) None) (sym (finmap.get-entries s q))

len_bared : (s : EntryMap) → finmap.len s ≡ length (finmap.entries (bared s))
unfolding bared bare
len_bared s =
    finmap.len-entries s ∙ sym (length-map (finmap.entries s) (λ e. (e.0, tt)))
    ∙ ap length (sym (finmap.entries-from_sorted place_cmp (bare (finmap.entries s)) (bare_sorted s)))

-- stores that hold something at the same paths hold the same number of paths
pub same_len : (s t : EntryMap) → ((q : PlaceParts) → is_some (finmap.get s q) ≡ is_some (finmap.get t q)) → finmap.len s ≡ finmap.len t
same_len s t same =
    let one : bared s ≡ bared t = finmap.same_map place_cmp_total place_cmp-IsAntisymmetric (bared s) (bared t) (λ q. get_bared s q ∙ ap (λ b. cond b (Some tt) None) (same q) ∙ sym (get_bared t q)) in
    len_bared s ∙ ap (λ m. length (finmap.entries m)) one ∙ sym (len_bared t)

-- each of these edits has one of the others at its path
abbrev pub AreAmongPlaces : List Edit → List Edit → Type 0
AreAmongPlaces es fs = (e : Edit) → IsAmong e es → (f : Edit) × IsAmong f fs × (f.place ≡ e.place)

some_above : (x : Entry) (o : Option Entry) → IsBelow (Some x) o → is_some o ≡ true
some_above x None below = absurd below
some_above x (Some y) below = refl

held_too : (es fs : List Edit) (q : PlaceParts) → AreAmongPlaces es fs → is_some (greatest_at q es) ≡ true → is_some (greatest_at q fs) ≡ true
held_too es fs q among = by (greatest_at q es) refl
  where
    by : (o : Option Entry) → greatest_at q es ≡ o → is_some o ≡ true → is_some (greatest_at q fs) ≡ true
    by None is some = cc
    by (Some x) is some =
        let found = among (edit_of (q, x)) (greatest_at-found q es x is) in
        let above = greatest_at-above found.0 fs found.1 in
        subst (λ (p : PlaceParts). is_some (greatest_at p fs) ≡ true) found.2 (some_above (entry_of found.0) (greatest_at found.0.place fs) above)

same_truth : (a b : Bool) → (a ≡ true → b ≡ true) → (b ≡ true → a ≡ true) → a ≡ b
same_truth true b there back = sym (there refl)
same_truth false true there back = back refl
same_truth false false there back = refl

-- edits at the same paths give the same number of paths
pub same_places : (es fs : List Edit) → AreAmongPlaces es fs → AreAmongPlaces fs es → finmap.len (sum_of es) ≡ finmap.len (sum_of fs)
same_places es fs there back =
    same_len (sum_of es) (sum_of fs) (λ q. ap is_some (get-sum_of es q) ∙ same_truth (is_some (greatest_at q es)) (is_some (greatest_at q fs)) (held_too es fs q there) (held_too fs es q back) ∙ ap is_some (sym (get-sum_of fs q)))
