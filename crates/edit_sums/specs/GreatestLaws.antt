-- What sums and joins hold at a place.
use Rattle.std.{proofs.Common.{◌++◌, ◌∷◌, ◌≡◌}, specs.Cmp.{tied_itself}}
use Rattle.edit_sums.specs.Prelude.{[], ap, below_all, Bool, cond, eq_by_cmp, Equal, false, filter, find, Greater, inl, inr, is_eq, is_gt, is_lt, is_sorted, IsAmong, Less, List, map, None, Option, Ordering, place_cmp, place_cmp-IsAntisymmetric, place_cmp_total, PlaceParts, refl, Some, subst, sym, T, T-both, true, unwrap_or, ◌∙◌}
use Rattle.edit_sums.specs.{declared.entries.Edit.{Edit}, Entries.{Entry, entry_cmp, IsBelow, larger}, EntryLaws.{below_trans, larger-least, larger-left, larger-right, larger_assoc, larger_cases}, Sums.{edit_of, edits_of, entry_of, EntryMap, greatest_at, join, sum_of, with_edit}}
use Rattle.std.specs.FinMap as finmap

is_equal : (r : Ordering) → is_eq r ≡ true → r ≡ Equal
is_equal Less h = cc
is_equal Equal h = refl
is_equal Greater h = cc

pub tied : (q p : PlaceParts) → eq_by_cmp place_cmp q p ≡ true → q ≡ p
tied q p e = place_cmp-IsAntisymmetric q p (is_equal _ e)

pub same_place : (q : PlaceParts) → eq_by_cmp place_cmp q q ≡ true
same_place q = ap is_eq (tied_itself place_cmp_total q)

filled : (x : Entry) (y : Option Entry) → Some (unwrap_or (larger (Some x) y) x) ≡ larger (Some x) y
filled x None = refl
filled x (Some y) =
    elim (is_gt (entry_cmp x y)) as (λ b. Some (unwrap_or (cond b (Some x) (Some y)) x) ≡ cond b (Some x) (Some y)) [ true ↦ refl | false ↦ refl ]

pub get-with_edit : (s : EntryMap) (e : Edit) (q : PlaceParts) → finmap.get (with_edit s e) q
    ≡ cond (eq_by_cmp place_cmp q e.place) (larger (Some (entry_of e)) (finmap.get s q)) (finmap.get s q)
get-with_edit s e q =
    finmap.get-insert place_cmp_total s e.place _ q ∙
    elim (eq_by_cmp place_cmp q e.place) as (λ b. eq_by_cmp place_cmp q e.place ≡ b → cond b (Some (unwrap_or (larger (Some (entry_of e)) (finmap.get s e.place)) (entry_of e))) (finmap.get s q) ≡ cond b (larger (Some (entry_of e)) (finmap.get s q)) (finmap.get s q)) [
      | true ↦ λ h. filled (entry_of e) (finmap.get s e.place) ∙ ap (λ p. larger (Some (entry_of e)) (finmap.get s p)) (sym (tied q e.place h))
      | false ↦ λ h. refl
    ] refl

pub get-sum_of : (es : List Edit) (q : PlaceParts) → finmap.get (sum_of es) q ≡ greatest_at q es
get-sum_of [] q = finmap.get-empty place_cmp q
get-sum_of (e ∷ es) q =
    get-with_edit (sum_of es) e q ∙
    ap (λ y. cond (eq_by_cmp place_cmp q e.place) (larger (Some (entry_of e)) y) y) (get-sum_of es q)

pub greatest_at-append : (q : PlaceParts) (xs ys : List Edit) → greatest_at q (xs ++ ys) ≡ larger (greatest_at q xs) (greatest_at q ys)
greatest_at-append q [] ys = refl
greatest_at-append q (x ∷ xs) ys =
    ap (λ y. cond (eq_by_cmp place_cmp q x.place) (larger (Some (entry_of x)) y) y) (greatest_at-append q xs ys) ∙
    elim (eq_by_cmp place_cmp q x.place) as (λ b. cond b (larger (Some (entry_of x)) (larger (greatest_at q xs) (greatest_at q ys))) (larger (greatest_at q xs) (greatest_at q ys)) ≡ larger (cond b (larger (Some (entry_of x)) (greatest_at q xs)) (greatest_at q xs)) (greatest_at q ys)) [
      | true ↦ sym (larger_assoc (Some (entry_of x)) (greatest_at q xs) (greatest_at q ys))
      | false ↦ refl
    ]

-- each edit at the place is at most the greatest
pub greatest_at-above : (e : Edit) (es : List Edit) → IsAmong e es → IsBelow (Some (entry_of e)) (greatest_at e.place es)
greatest_at-above e [] h = absurd h
greatest_at-above e (f ∷ fs) (inl h) =
    subst (λ (p : Bool). IsBelow (Some (entry_of e)) (cond p (larger (Some (entry_of f)) (greatest_at e.place fs)) (greatest_at e.place fs))) (sym (ap (λ (g : Edit). eq_by_cmp place_cmp e.place g.place) h ∙ same_place e.place))
    (subst (λ (g : Edit). IsBelow (Some (entry_of e)) (larger (Some (entry_of g)) (greatest_at e.place fs))) (sym h) (larger-left (Some (entry_of e)) (greatest_at e.place fs)))
greatest_at-above e (f ∷ fs) (inr h) =
    elim (eq_by_cmp place_cmp e.place f.place) as (λ b. IsBelow (Some (entry_of e)) (cond b (larger (Some (entry_of f)) (greatest_at e.place fs)) (greatest_at e.place fs))) [
      | true ↦ below_trans (Some (entry_of e)) (greatest_at e.place fs) (larger (Some (entry_of f)) (greatest_at e.place fs)) (greatest_at-above e fs h) (larger-right (Some (entry_of f)) (greatest_at e.place fs))
      | false ↦ greatest_at-above e fs h
    ]

-- the greatest is one of the edits
pub greatest_at-found : (q : PlaceParts) (es : List Edit) (x : Entry) → greatest_at q es ≡ Some x → IsAmong (edit_of (q, x)) es
greatest_at-found q [] x h = cc
greatest_at-found q (f ∷ fs) x h =
    elim (eq_by_cmp place_cmp q f.place) as (λ b. eq_by_cmp place_cmp q f.place ≡ b → cond b (larger (Some (entry_of f)) (greatest_at q fs)) (greatest_at q fs) ≡ Some x → IsAmong (edit_of (q, x)) (f ∷ fs)) [
      | true ↦ λ t g. elim (larger_cases (Some (entry_of f)) (greatest_at q fs)) [
        | inl a ↦
            let same : entry_of f ≡ x = cc in
            let there : f.place ≡ q = sym (tied q f.place t) in
            inl (λ i. record { place = there i; version = (same i).version; content = (same i).content })
        | inr a ↦ inr (greatest_at-found q fs x (sym a ∙ g))
      ]
      | false ↦ λ t g. inr (greatest_at-found q fs x g)
    ] refl h

-- the greatest is at most everything that each edit is at most
pub greatest_at-least : (q : PlaceParts) (es : List Edit) (z : Option Entry)
    → ((e : Edit) → IsAmong e es → e.place ≡ q → IsBelow (Some (entry_of e)) z) → IsBelow (greatest_at q es) z
greatest_at-least q [] z h = tt
greatest_at-least q (f ∷ fs) z h =
    let rest : IsBelow (greatest_at q fs) z = greatest_at-least q fs z (λ e a p. h e (inr a) p) in
    elim (eq_by_cmp place_cmp q f.place) as (λ b. eq_by_cmp place_cmp q f.place ≡ b → IsBelow (cond b (larger (Some (entry_of f)) (greatest_at q fs)) (greatest_at q fs)) z) [
      | true ↦ λ t. larger-least (Some (entry_of f)) (greatest_at q fs) z (h f (inl refl) (sym (tied q f.place t))) rest
      | false ↦ λ t. rest
    ] refl

-- more edits give a greater sum
pub greatest_at-mono : (q : PlaceParts) (xs ys : List Edit) → ((e : Edit) → IsAmong e xs → IsAmong e ys)
    → IsBelow (greatest_at q xs) (greatest_at q ys)
greatest_at-mono q xs ys within =
    greatest_at-least q xs _ (λ e a p. subst (λ (r : PlaceParts). IsBelow (Some (entry_of e)) (greatest_at r ys)) p (greatest_at-above e ys (within e a)))

-- The edits of a store.

not_tied : (r : Ordering) → T (is_lt r) → is_eq r ≡ false
not_tied Less h = refl
not_tied Equal h = absurd h
not_tied Greater h = absurd h

module _ {X : Type 0} where
  find_below : (q : PlaceParts) (es : List (PlaceParts × X)) → T (below_all place_cmp q es) → find place_cmp q es ≡ None
  find_below q [] h = refl
  find_below q (e ∷ es) h =
      ap (λ b. cond b (Some e.1) (find place_cmp q es)) (not_tied _ (T-both _ _ h).0) ∙ find_below q es (T-both _ _ h).1

-- the entry, if its edit passes the test
abbrev pub passed : (Edit → Bool) → PlaceParts → Option Entry → Option Entry
passed p q None = None
passed p q (Some x) = cond (p (edit_of (q, x))) (Some x) None

greatest_at-passed : (p : Edit → Bool) (q : PlaceParts) (es : List (PlaceParts × Entry)) → T (is_sorted place_cmp es)
    → greatest_at q (filter p (map edit_of es)) ≡ passed p q (find place_cmp q es)
greatest_at-passed p q [] h = refl
greatest_at-passed p q (e ∷ es) h =
    let rest : greatest_at q (filter p (map edit_of es)) ≡ passed p q (find place_cmp q es) = greatest_at-passed p q es (T-both _ _ h).1 in
    elim (eq_by_cmp place_cmp q e.0) as (λ b. eq_by_cmp place_cmp q e.0 ≡ b → greatest_at q (cond (p (edit_of e)) (edit_of e ∷ filter p (map edit_of es)) (filter p (map edit_of es))) ≡ passed p q (cond b (Some e.1) (find place_cmp q es))) [
      | true ↦ λ t.
          let here : q ≡ e.0 = tied q e.0 t in
          let none : find place_cmp q es ≡ None = subst (λ (k : PlaceParts). find place_cmp k es ≡ None) (sym here) (find_below e.0 es (T-both _ _ h).0) in
          let gone : greatest_at q (filter p (map edit_of es)) ≡ None = rest ∙ ap (passed p q) none in
          elim (p (edit_of e)) as (λ c. greatest_at q (cond c (edit_of e ∷ filter p (map edit_of es)) (filter p (map edit_of es))) ≡ cond c (Some e.1) None) [
            | true ↦ ap (λ b. cond b (larger (Some e.1) (greatest_at q (filter p (map edit_of es)))) (greatest_at q (filter p (map edit_of es)))) t ∙ ap (larger (Some e.1)) gone
            | false ↦ gone
          ] ∙ ap (λ (k : PlaceParts). cond (p (edit_of (k, e.1))) (Some e.1) None) (sym here)
      | false ↦ λ t. elim (p (edit_of e)) as (λ c. greatest_at q (cond c (edit_of e ∷ filter p (map edit_of es)) (filter p (map edit_of es))) ≡ greatest_at q (filter p (map edit_of es))) [
        | true ↦ ap (λ b. cond b (larger (Some e.1) (greatest_at q (filter p (map edit_of es)))) (greatest_at q (filter p (map edit_of es)))) t
        | false ↦ refl
      ] ∙ rest
    ] refl

pub greatest_at-filter : (p : Edit → Bool) (q : PlaceParts) (s : EntryMap)
    → greatest_at q (filter p (edits_of s)) ≡ passed p q (finmap.get s q)
greatest_at-filter p q s =
    greatest_at-passed p q (finmap.entries s) (finmap.entries_sorted s) ∙ ap (passed p q) (sym (finmap.get-entries s q))

filter_any : (es : List Edit) → filter (λ _. true) es ≡ es
filter_any [] = refl
filter_any (e ∷ es) = ap (λ (fs : List Edit). e ∷ fs) (filter_any es)

passed_any : (q : PlaceParts) (y : Option Entry) → passed (λ _. true) q y ≡ y
passed_any q None = refl
passed_any q (Some x) = refl

-- the sum of a store's edits is the store
pub greatest_at-edits_of : (q : PlaceParts) (s : EntryMap) → greatest_at q (edits_of s) ≡ finmap.get s q
greatest_at-edits_of q s =
    ap (greatest_at q) (sym (filter_any (edits_of s))) ∙ greatest_at-filter (λ _. true) q s ∙ passed_any q (finmap.get s q)

pub get-join : (s t : EntryMap) (q : PlaceParts) → finmap.get (join s t) q ≡ larger (finmap.get s q) (finmap.get t q)
get-join s t q =
    get-sum_of (edits_of s ++ edits_of t) q ∙ greatest_at-append q (edits_of s) (edits_of t) ∙
    ap (λ y. larger y (greatest_at q (edits_of t))) (greatest_at-edits_of q s) ∙ ap (larger (finmap.get s q)) (greatest_at-edits_of q t)

entry_in : (e : Edit) (es : List (PlaceParts × Entry)) → T (is_sorted place_cmp es) → IsAmong e (map edit_of es)
    → find place_cmp e.place es ≡ Some (entry_of e)
entry_in e [] h a = absurd a
entry_in e (f ∷ fs) h (inl a) =
    let here : f.0 ≡ e.place = λ i. (a i).place in
    let there : f.1 ≡ entry_of e = λ i. entry_of (a i) in
    ap (λ (k : PlaceParts). cond (eq_by_cmp place_cmp e.place k) (Some f.1) (find place_cmp e.place fs)) here ∙
    ap (λ b. cond b (Some f.1) (find place_cmp e.place fs)) (same_place e.place) ∙ ap Some there
entry_in e (f ∷ fs) h (inr a) =
    let rest : find place_cmp e.place fs ≡ Some (entry_of e) = entry_in e fs (T-both (below_all place_cmp f.0 fs) (is_sorted place_cmp fs) h).1 a in
    elim (eq_by_cmp place_cmp e.place f.0) as (λ b. eq_by_cmp place_cmp e.place f.0 ≡ b → cond b (Some f.1) (find place_cmp e.place fs) ≡ Some (entry_of e)) [
      | true ↦ λ t.
          let none : find place_cmp e.place fs ≡ None = subst (λ (k : PlaceParts). find place_cmp k fs ≡ None) (sym (tied e.place f.0 t)) (find_below f.0 fs (T-both _ _ h).0) in
          cc
      | false ↦ λ t. rest
    ] refl

-- an edit of a store is the store's entry at its place
pub get_from_edits_of : (e : Edit) (s : EntryMap) → IsAmong e (edits_of s) → finmap.get s e.place ≡ Some (entry_of e)
get_from_edits_of e s a = finmap.get-entries s e.place ∙ entry_in e (finmap.entries s) (finmap.entries_sorted s) a

pub passed_was : (p : Edit → Bool) (q : PlaceParts) (y : Option Entry) (x : Entry) → passed p q y ≡ Some x → y ≡ Some x
passed_was p q None x h = cc
passed_was p q (Some y) x h =
    elim (p (edit_of (q, y))) as (λ b. cond b (Some y) None ≡ Some x → Some y ≡ Some x) [ true ↦ λ k. k | false ↦ λ k. cc ] h

-- Membership.

pub IsAmong_from_filter : (p : Edit → Bool) (e : Edit) (xs : List Edit) → IsAmong e (filter p xs) → IsAmong e xs
IsAmong_from_filter p e [] h = absurd h
IsAmong_from_filter p e (x ∷ xs) h =
    elim (p x) as (λ b. IsAmong e (cond b (x ∷ filter p xs) (filter p xs)) → IsAmong e (x ∷ xs)) [
      | true ↦ λ k. elim k [ inl a ↦ inl a | inr a ↦ inr (IsAmong_from_filter p e xs a) ]
      | false ↦ λ k. inr (IsAmong_from_filter p e xs k)
    ] h
