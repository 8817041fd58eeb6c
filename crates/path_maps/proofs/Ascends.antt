-- A join changes the places of greater entries, and adds the places where nothing was held.
use Rattle.std.proofs.Common.{◌+◌, ◌∷◌, ◌≡◌, ◌≤◌, ◌⊎◌}
use Rattle.path_maps.proofs.Prelude.{[], additions, and_parts, ap, arith, ascends, below_all, Bool, by_order, changed_places, Compared, cond, count_by, count_by-le-length, edit_of, Entry, entry_cmp, entry_cmp_total, EntryMap, eq_by_cmp, Equal, false, find, find_below, from_T, get-join, get-with_edit, Greater, inl, inr, is_ascending, is_eq, is_gt, is_less, is_lt, is_other, is_some, is_sorted, IsTrue, join, join-nothing, larger, larger-None, length, Less, List, map, None, not, Option, Ordering, ordering_reverse, place_cmp, place_cmp-IsAntisymmetric, place_cmp_total, PlaceParts, put, refl, same_place, same_store, Some, sum_by-cons, sum_of, sum_of-edits_of, sym, tied, tied_itself, to_T, true, unwrap_or, with_edit, with_edit-of_join, ℕ, ◌∙◌}
use Rattle.std.specs.FinMap as finmap

count_cons : {X : Type 0} (p : X → Bool) (x : X) (xs : List X) → count_by p (x ∷ xs) ≡ cond (p x) 1 0 + count_by p xs
count_cons p x xs = sum_by-cons _ x xs

nothing_more : (n : ℕ) → 0 + n ≡ n
nothing_more n = omega arith

itself_no_other : (x : Entry) → is_other (Some x) x ≡ false
itself_no_other x = ap (λ r. not (is_eq r)) (tied_itself entry_cmp_total x)

-- ---- an entry that is put in its place changes only this place

module _ (first : PlaceParts → Option Entry) (k : PlaceParts) (v : Entry) where
  abbrev others : List (PlaceParts × Entry) → ℕ
  others es = count_by (λ (p : PlaceParts × Entry). is_other (first p.0) p.1) es

  put_changes : (es : List (PlaceParts × Entry)) → first k ≡ find place_cmp k es → others (put place_cmp k v es) ≡ cond (is_other (first k) v) 1 0 + others es
  put_changes [] f = count_cons (λ (p : PlaceParts × Entry). is_other (first p.0) p.1) (k, v) []
  put_changes (e ∷ es) f = by (place_cmp k e.0) refl (put_changes es)
    where
      by : (r : Ordering) → place_cmp k e.0 ≡ r → (first k ≡ find place_cmp k es → others (put place_cmp k v es) ≡ cond (is_other (first k) v) 1 0 + others es) → others (by_order r ((k, v) ∷ e ∷ es) ((e.0, v) ∷ es) (e ∷ put place_cmp k v es)) ≡ cond (is_other (first k) v) 1 0 + others (e ∷ es)
      by Less o more = count_cons (λ (p : PlaceParts × Entry). is_other (first p.0) p.1) (k, v) (e ∷ es)
      by Equal o more =
          let here : k ≡ e.0 = place_cmp-IsAntisymmetric k e.0 o in
          let was : first e.0 ≡ Some e.1 = ap first (sym here) ∙ f ∙ ap (λ r. cond (is_eq r) (Some e.1) (find place_cmp k es)) o in
          let none : is_other (first e.0) e.1 ≡ false = ap (λ y. is_other y e.1) was ∙ itself_no_other e.1 in
          let old : others (e ∷ es) ≡ others es = count_cons (λ (p : PlaceParts × Entry). is_other (first p.0) p.1) e es ∙ ap (λ b. cond b 1 0 + others es) none ∙ nothing_more (others es) in
          count_cons (λ (p : PlaceParts × Entry). is_other (first p.0) p.1) (e.0, v) es ∙ (λ i. cond (is_other (first (sym here i)) v) 1 0 + sym old i)
      by Greater o more =
          let rest = more (f ∙ ap (λ r. cond (is_eq r) (Some e.1) (find place_cmp k es)) o) in
          let one = count_cons (λ (p : PlaceParts × Entry). is_other (first p.0) p.1) e (put place_cmp k v es) in
          let two = count_cons (λ (p : PlaceParts × Entry). is_other (first p.0) p.1) e es in
          one ∙ ap (λ n. cond (is_other (first e.0) e.1) 1 0 + n) rest ∙ omega (arith, two)

-- The entry after a write differs from the one before exactly where the written one is greater.
written_other : (x : Option Entry) (y : Entry) → is_other x (unwrap_or (larger (Some y) x) y) ≡ is_ascending x y
written_other None y = refl
written_other (Some x) y = by (entry_cmp y x) refl
  where
    by : (r : Ordering) → entry_cmp y x ≡ r → is_other (Some x) (unwrap_or (cond (is_gt r) (Some y) (Some x)) y) ≡ is_lt (entry_cmp x y)
    by Less e = itself_no_other x ∙ sym (ap is_lt (entry_cmp_total.antisymm x y ∙ ap ordering_reverse e))
    by Equal e = itself_no_other x ∙ sym (ap is_lt (entry_cmp_total.antisymm x y ∙ ap ordering_reverse e))
    by Greater e =
        let turned = entry_cmp_total.antisymm x y ∙ ap ordering_reverse e in
        ap (λ r. not (is_eq r)) turned ∙ sym (ap is_lt turned)

pub found_entry : (m : EntryMap) (q : PlaceParts) → finmap.get m q ≡ find place_cmp q (finmap.entries m)
found_entry m q =
    ap (λ (x : EntryMap). finmap.get x q) (sym (finmap.same_entries_map _ m (finmap.entries-from_sorted place_cmp (finmap.entries m) (finmap.entries_sorted m))))
    ∙ finmap.get-from_sorted place_cmp (finmap.entries m) q (finmap.entries_sorted m)

-- ---- entry by entry

module _ (s : EntryMap) where
  abbrev joined : List (PlaceParts × Entry) → EntryMap
  joined es = join s (sum_of (map edit_of es))

  greatest_none : (q : PlaceParts) (es : List (PlaceParts × Entry)) → IsTrue (below_all place_cmp q es) → IsTrue (is_sorted place_cmp es) → finmap.get (sum_of (map edit_of es)) q ≡ None
  greatest_none q es b t =
      ap (λ (x : EntryMap). finmap.get x q) (sum_of_sorted es t) ∙ finmap.get-from_sorted place_cmp es q (to_T _ t) ∙ find_below place_cmp q es b
    where
      sum_of_sorted : (es : List (PlaceParts × Entry)) → IsTrue (is_sorted place_cmp es) → sum_of (map edit_of es) ≡ finmap.from_sorted es
      sum_of_sorted es t = ap (λ (x : List (PlaceParts × Entry)). sum_of (map edit_of x)) (sym (finmap.entries-from_sorted place_cmp es (to_T _ t))) ∙ sum_of-edits_of (finmap.from_sorted es)

  module _ (e : PlaceParts × Entry) (es : List (PlaceParts × Entry)) (t : IsTrue (is_sorted place_cmp (e ∷ es))) where
    untouched : finmap.get (joined es) e.0 ≡ finmap.get s e.0
    untouched =
        let p = and_parts _ _ t in
        get-join s (sum_of (map edit_of es)) e.0 ∙ ap (larger (finmap.get s e.0)) (greatest_none e.0 es p.0 p.1) ∙ larger-None (finmap.get s e.0)

    more : joined (e ∷ es) ≡ with_edit (joined es) (edit_of e)
    more = sym (with_edit-of_join s (sum_of (map edit_of es)) (edit_of e))

    pub more_changed : changed_places s (joined (e ∷ es)) ≡ cond (is_ascending (finmap.get s e.0) e.1) 1 0 + changed_places s (joined es)
    more_changed =
        ap (changed_places s) more
        ∙ ap (λ (x : List (PlaceParts × Entry)). others (finmap.get s) e.0 e.1 x) (finmap.entries-insert place_cmp_total (joined es) e.0 _)
        ∙ put_changes (finmap.get s) e.0 _ (finmap.entries (joined es)) (sym untouched ∙ found_there)
        ∙ ap (λ b. cond b 1 0 + changed_places s (joined es)) (ap (λ y. is_other (finmap.get s e.0) (unwrap_or (larger (Some e.1) y) e.1)) untouched ∙ written_other (finmap.get s e.0) e.1)
      where
        found_there : finmap.get (joined es) e.0 ≡ find place_cmp e.0 (finmap.entries (joined es))
        found_there = found_entry (joined es) e.0

    pub more_held : finmap.len (joined (e ∷ es)) ≡ cond (not (is_some (finmap.get s e.0))) 1 0 + finmap.len (joined es)
    more_held =
        ap (λ (x : EntryMap). finmap.len x) more ∙ finmap.len-insert place_cmp_total (joined es) e.0 _
        ∙ ap (λ y. cond (is_some y) (finmap.len (joined es)) (finmap.len (joined es) + 1)) untouched
        ∙ one (is_some (finmap.get s e.0)) (finmap.len (joined es))
      where
        one : (b : Bool) (n : ℕ) → cond b n (n + 1) ≡ cond (not b) 1 0 + n
        one true n = omega arith
        one false n = omega arith

-- ---- all of them

abbrev IsOneOf : PlaceParts × Entry → List (PlaceParts × Entry) → Type 0
IsOneOf p [] = ⊥
IsOneOf p (e ∷ es) = (e ≡ p) ⊎ IsOneOf p es

own_below : (k : PlaceParts) (es : List (PlaceParts × Entry)) → IsTrue (below_all place_cmp k es) → (p : PlaceParts × Entry) → IsOneOf p es → eq_by_cmp place_cmp p.0 k ≡ false
own_below k [] b p h = absurd h
own_below k (e ∷ es) b p (inl h) = ap (λ (r : PlaceParts × Entry). eq_by_cmp place_cmp r.0 k) (sym h) ∙ ap is_eq (place_cmp_total.antisymm e.0 k ∙ ap ordering_reverse (is_less _ (and_parts _ _ b).0))
own_below k (e ∷ es) b p (inr h) = own_below k es (and_parts _ _ b).1 p h

find_own : (es : List (PlaceParts × Entry)) → IsTrue (is_sorted place_cmp es) → (p : PlaceParts × Entry) → IsOneOf p es → find place_cmp p.0 es ≡ Some p.1
find_own [] s p h = absurd h
find_own (e ∷ es) s p (inl h) = ap (λ (r : PlaceParts × Entry). cond (eq_by_cmp place_cmp r.0 e.0) (Some e.1) (find place_cmp r.0 es)) (sym h) ∙ ap (λ b. cond b (Some e.1) (find place_cmp e.0 es)) (same_place e.0) ∙ ap (λ (r : PlaceParts × Entry). Some r.1) h
find_own (e ∷ es) s p (inr h) = ap (λ b. cond b (Some e.1) (find place_cmp p.0 es)) (own_below e.0 es (and_parts _ _ s).0 p h) ∙ find_own es (and_parts (below_all place_cmp e.0 es) _ s).1 p h

none_other : (first : PlaceParts → Option Entry) (es : List (PlaceParts × Entry)) → ((p : PlaceParts × Entry) → IsOneOf p es → first p.0 ≡ Some p.1) → count_by (λ (p : PlaceParts × Entry). is_other (first p.0) p.1) es ≡ 0
none_other first [] h = refl
none_other first (e ∷ es) h =
    count_cons _ e es ∙ ap (λ b. cond b 1 0 + count_by (λ (p : PlaceParts × Entry). is_other (first p.0) p.1) es) (ap (λ y. is_other y e.1) (h e (inl refl)) ∙ itself_no_other e.1)
    ∙ nothing_more _ ∙ none_other first es (λ p a. h p (inr a))

pub nothing_changed : (s : EntryMap) → changed_places s s ≡ 0
nothing_changed s = none_other (finmap.get s) (finmap.entries s) (λ p is. found_entry s p.0 ∙ find_own (finmap.entries s) (from_T _ (finmap.entries_sorted s)) p is)

module _ (s : EntryMap) where
  changed_by : (es : List (PlaceParts × Entry)) → IsTrue (is_sorted place_cmp es) → changed_places s (joined s es) ≡ ascends s es
  changed_by [] t = ap (changed_places s) (join-nothing s) ∙ nothing_changed s
  changed_by (e ∷ es) t =
      more_changed s e es t ∙ ap (λ n. cond (is_ascending (finmap.get s e.0) e.1) 1 0 + n) (changed_by es (and_parts (below_all place_cmp e.0 es) _ t).1)
      ∙ sym (count_cons _ e es)

  held_by : (es : List (PlaceParts × Entry)) → IsTrue (is_sorted place_cmp es) → finmap.len (joined s es) ≡ additions s es + finmap.len s
  held_by [] t = ap (λ (x : EntryMap). finmap.len x) (join-nothing s) ∙ sym (nothing_more (finmap.len s))
  held_by (e ∷ es) t =
      let rest = held_by es (and_parts (below_all place_cmp e.0 es) _ t).1 in
      let one = count_cons (λ (p : PlaceParts × Entry). not (is_some (finmap.get s p.0))) e es in
      more_held s e es t ∙ omega (arith, rest, one)

  module _ (t : EntryMap) where
    all_joined : joined s (finmap.entries t) ≡ join s t
    all_joined = ap (join s) (sum_of-edits_of t)

    -- A join changes as many places as the other store has greater entries.
    pub changed-join : changed_places s (join s t) ≡ ascends s (finmap.entries t)
    changed-join = ap (changed_places s) (sym all_joined) ∙ changed_by (finmap.entries t) (from_T _ (finmap.entries_sorted t))

    -- A join adds as many places as the other store has where nothing was held.
    pub len-join : finmap.len (join s t) ≡ additions s (finmap.entries t) + finmap.len s
    len-join = ap (λ (x : EntryMap). finmap.len x) (sym all_joined) ∙ held_by (finmap.entries t) (from_T _ (finmap.entries_sorted t))

-- ---- where nothing is greater, a join changes nothing

module _ (s : EntryMap) where
  pub not_greater : (x : Option Entry) (y : Entry) → is_ascending x y ≡ false → larger (Some y) x ≡ x
  not_greater None y h = cc (h)
  not_greater (Some x) y h = by (entry_cmp y x) refl
    where
      by : (r : Ordering) → entry_cmp y x ≡ r → cond (is_gt r) (Some y) (Some x) ≡ Some x
      by Less e = refl
      by Equal e = refl
      by Greater e = let wrong = sym (ap is_lt (entry_cmp_total.antisymm x y ∙ ap ordering_reverse e)) ∙ h in cc (wrong)

  edit_known : (e : PlaceParts × Entry) → is_ascending (finmap.get s e.0) e.1 ≡ false → with_edit s (edit_of e) ≡ s
  edit_known e h = same_store _ _ (λ q. get-with_edit s (edit_of e) q ∙ by q (eq_by_cmp place_cmp q e.0) refl)
    where
      by : (q : PlaceParts) (b : Bool) → eq_by_cmp place_cmp q e.0 ≡ b → cond (eq_by_cmp place_cmp q e.0) (larger (Some e.1) (finmap.get s q)) (finmap.get s q) ≡ finmap.get s q
      by q true t =
          ap (λ b. cond b (larger (Some e.1) (finmap.get s q)) (finmap.get s q)) t
          ∙ not_greater (finmap.get s q) e.1 (ap (λ (k : PlaceParts). is_ascending (finmap.get s k) e.1) (tied q e.0 t) ∙ h)
      by q false t = ap (λ b. cond b (larger (Some e.1) (finmap.get s q)) (finmap.get s q)) t

  known_all : (es : List (PlaceParts × Entry)) → IsTrue (is_sorted place_cmp es) → ascends s es ≡ 0 → joined s es ≡ s
  known_all [] t none = join-nothing s
  known_all (e ∷ es) t none = by (is_ascending (finmap.get s e.0) e.1) refl (known_all es (and_parts (below_all place_cmp e.0 es) _ t).1)
    where
      one : ascends s (e ∷ es) ≡ cond (is_ascending (finmap.get s e.0) e.1) 1 0 + ascends s es
      one = count_cons _ e es

      by : (b : Bool) → is_ascending (finmap.get s e.0) e.1 ≡ b → (ascends s es ≡ 0 → joined s es ≡ s) → joined s (e ∷ es) ≡ s
      by true h more_known = let count = sym none ∙ one ∙ ap (λ b. cond b 1 0 + ascends s es) h in absurd (omega (arith, count))
      by false h more_known =
          let count = sym none ∙ one ∙ ap (λ b. cond b 1 0 + ascends s es) h in
          let rest : ascends s es ≡ 0 = omega (arith, count) in
          more s e es t ∙ ap (λ m. with_edit m (edit_of e)) (more_known rest) ∙ edit_known e h

  pub join_known : (t : EntryMap) → ascends s (finmap.entries t) ≡ 0 → s ≡ join s t
  join_known t none = sym (sym (all_joined s t) ∙ known_all (finmap.entries t) (from_T _ (finmap.entries_sorted t)) none)

-- ---- entries side by side with what the other store has

-- How many entries are greater than what the other store has, and for how many it has nothing.
abbrev pub ascends_zipped : List (Compared PlaceParts) → ℕ
ascends_zipped bs = count_by (λ b. is_ascending b.1 b.0.1) bs

abbrev pub additions_zipped : List (Compared PlaceParts) → ℕ
additions_zipped bs = count_by (λ b. not (is_some b.1)) bs

-- ---- counts that can't overflow

module _ (n : ℕ) (b : Compared PlaceParts) (rest : List (Compared PlaceParts)) where
  module _ (s : EntryMap) (all : List (PlaceParts × Entry)) where
    pub room_changed : is_ascending b.1 b.0.1 ≡ true → n + ascends_zipped (b ∷ rest) ≡ ascends s all → n + 1 ≤ length all
    room_changed h e =
        let one = count_cons (λ (x : Compared PlaceParts). is_ascending x.1 x.0.1) b rest ∙ ap (λ c. cond c 1 0 + ascends_zipped rest) h in
        let most = count_by-le-length (λ (x : PlaceParts × Entry). is_ascending (finmap.get s x.0) x.1) all in
        omega (arith, one, e, most)

    pub room_added : b.1 ≡ None → n + additions_zipped (b ∷ rest) ≡ additions s all → n + 1 ≤ length all
    room_added h e =
        let one = count_cons (λ (x : Compared PlaceParts). not (is_some x.1)) b rest ∙ ap (λ (y : Option Entry). cond (not (is_some y)) 1 0 + additions_zipped rest) h in
        let most = count_by-le-length (λ (x : PlaceParts × Entry). not (is_some (finmap.get s x.0))) all in
        omega (arith, one, e, most)

pub ascend_none : (x : Option Entry) (y : Entry) → x ≡ None → is_ascending x y ≡ true
ascend_none x y h = ap (λ (z : Option Entry). is_ascending z y) h

-- No more places are added than the other store has.
pub additions_within : (s t : EntryMap) → additions s (finmap.entries t) ≤ finmap.len t
additions_within s t =
    let most = count_by-le-length (λ (x : PlaceParts × Entry). not (is_some (finmap.get s x.0))) (finmap.entries t) in
    let len = finmap.len-entries t in
    omega (arith, most, len)
