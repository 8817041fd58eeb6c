-- What is found in the list that a nested map spreads into, and that its keys are in ascending order.
use Rattle.std.proofs.Common.{◌&&◌, ◌++◌, ◌∷◌, ◌≡◌}
use Rattle.path_maps.specs.Prelude.{[], and_parts, ap, below_all, Bool, cond, eq_by_cmp, Equal, false, find, is_eq, is_equal, is_less, is_lt, is_sorted, IsTotalOrder, IsTrue, Less, List, None, option_and_then, Ordering, refl, Some, subst, sym, tied_itself, true, ◌∙◌}
use Rattle.path_maps.specs.Spread.{AllKeys, AllValues, spread}

both : (a b : Bool) → IsTrue a → IsTrue b → IsTrue (a && b)
both true b p q = q
both false b p q = cc (p)

module _ {A E : Type 0} (S : A → A → Ordering) where
  pub find-prefix : (q : A) (xs ys : List (A × E)) → find S q ys ≡ None → find S q (xs ++ ys) ≡ find S q xs
  find-prefix q [] ys h = h
  find-prefix q (x ∷ xs) ys h = ap (λ r. cond (eq_by_cmp S q x.0) (Some x.1) r) (find-prefix q xs ys h)

  pub find-after : (q : A) (xs ys : List (A × E)) → find S q xs ≡ None → find S q (xs ++ ys) ≡ find S q ys
  find-after q [] ys h = refl
  find-after q (x ∷ xs) ys h =
      elim (eq_by_cmp S q x.0) as (λ b. cond b (Some x.1) (find S q xs) ≡ None → cond b (Some x.1) (find S q (xs ++ ys)) ≡ find S q ys) [
        | true ↦ λ h. cc (h)
        | false ↦ λ h. find-after q xs ys h
      ] h

  pub find_below : (q : A) (es : List (A × E)) → IsTrue (below_all S q es) → find S q es ≡ None
  find_below q [] h = refl
  find_below q (e ∷ es) h =
      let p = and_parts _ _ h in
      ap (λ r. cond (is_eq r) (Some e.1) (find S q es)) (is_less _ p.0) ∙ find_below q es p.1

  below_append : (x : A) (xs ys : List (A × E)) → IsTrue (below_all S x xs) → IsTrue (below_all S x ys) → IsTrue (below_all S x (xs ++ ys))
  below_append x [] ys p q = q
  below_append x (e ∷ es) ys p q = let h = and_parts _ _ p in both _ _ h.0 (below_append x es ys h.1 q)

  sorted_append : (xs ys : List (A × E)) → IsTrue (is_sorted S xs) → IsTrue (is_sorted S ys)
      → AllKeys (λ x. IsTrue (below_all S x ys)) xs → IsTrue (is_sorted S (xs ++ ys))
  sorted_append [] ys p q h = q
  sorted_append (x ∷ xs) ys p q h = let s = and_parts _ _ p in both _ _ (below_append x.0 xs ys s.0 h.0) (sorted_append xs ys s.1 q h.1)

pub all_keys_weaker : {A E : Type 0} (P Q : A → Type 0) (f : (a : A) → P a → Q a) (xs : List (A × E)) → AllKeys P xs → AllKeys Q xs
all_keys_weaker P Q f [] h = tt
all_keys_weaker P Q f (x ∷ xs) h = (f x.0 h.0, all_keys_weaker P Q f xs h.1)

pub all_keys-append : {A E : Type 0} (P : A → Type 0) (xs ys : List (A × E)) → AllKeys P xs → AllKeys P ys → AllKeys P (xs ++ ys)
all_keys-append P [] ys p q = q
all_keys-append P (x ∷ xs) ys p q = (p.0, all_keys-append P xs ys p.1 q)

-- The part of `k` has only keys of `k`.
module _ {K V A E : Type 0} (R : K → K → Ordering) (S : A → A → Ordering) (IsOf : K → A → Type 0)
    (part : K → V → List (A × E)) (of_part : (k : K) (v : V) → AllKeys (IsOf k) (part k v)) where
  module _ (o : IsTotalOrder R) (same : (k l : K) → R k l ≡ Equal → k ≡ l) (exact : (a b : A) → S a b ≡ Equal → a ≡ b) where
    other_part : (k : K) (q : A) → ¬ IsOf k q → (xs : List (A × E)) → AllKeys (IsOf k) xs → find S q xs ≡ None
    other_part k q other [] h = refl
    other_part k q other (x ∷ xs) h =
        elim (eq_by_cmp S q x.0) as (λ b. eq_by_cmp S q x.0 ≡ b → cond b (Some x.1) (find S q xs) ≡ None) [
          | true ↦ λ t. absurd (other (subst (IsOf k) (sym (exact q x.0 (is_equal _ t))) h.0))
          | false ↦ λ t. other_part k q other xs h.1
        ] refl

    -- What is found at a key of `k` is what is found in the part of `k`.
    pub find-spread : (q : A) (k : K) → ((l : K) → IsOf l q → l ≡ k) → (es : List (K × V)) → IsTrue (is_sorted R es)
        → find S q (spread part es) ≡ option_and_then (λ v. find S q (part k v)) (find R k es)
    find-spread q k one [] s = refl
    find-spread q k one (e ∷ es) s =
        let rest = find-spread q k one es (and_parts _ _ s).1 in
        elim (eq_by_cmp R k e.0) as (λ b. eq_by_cmp R k e.0 ≡ b → find S q (part e.0 e.1 ++ spread part es) ≡ option_and_then (λ v. find S q (part k v)) (cond b (Some e.1) (find R k es))) [
          | true ↦ λ t.
              let here = same k e.0 (is_equal _ t) in
              let none = find_below R k es (subst (λ x. IsTrue (below_all R x es)) (sym here) (and_parts _ _ s).0) in
              find-prefix S q (part e.0 e.1) (spread part es) (rest ∙ ap (option_and_then (λ v. find S q (part k v))) none)
              ∙ ap (λ x. find S q (part x e.1)) (sym here)
          | false ↦ λ t.
              let apart : ¬ IsOf e.0 q = λ is. let wrong = sym t ∙ ap (λ x. eq_by_cmp R k x) (one e.0 is) ∙ ap is_eq (tied_itself o k) in cc (wrong) in
              find-after S q (part e.0 e.1) (spread part es) (other_part e.0 q apart (part e.0 e.1) (of_part e.0 e.1)) ∙ rest
        ] refl

  module _ (Good : V → Type 0) (by_key : (k l : K) (a b : A) → R k l ≡ Less → IsOf k a → IsOf l b → S a b ≡ Less)
      (part_sorted : (k : K) (v : V) → Good v → IsTrue (is_sorted S (part k v))) where
    below_part : (k l : K) (a : A) → R k l ≡ Less → IsOf k a → (bs : List (A × E)) → AllKeys (IsOf l) bs → IsTrue (below_all S a bs)
    below_part k l a less is [] h = refl
    below_part k l a less is (b ∷ bs) h = both _ _ (ap is_lt (by_key k l a b.0 less is h.0)) (below_part k l a less is bs h.1)

    below_spread : (k : K) (a : A) → IsOf k a → (es : List (K × V)) → IsTrue (below_all R k es) → IsTrue (below_all S a (spread part es))
    below_spread k a is [] h = refl
    below_spread k a is (e ∷ es) h =
        let p = and_parts _ _ h in
        below_append S a (part e.0 e.1) (spread part es) (below_part k e.0 a (is_less _ p.0) is (part e.0 e.1) (of_part e.0 e.1)) (below_spread k a is es p.1)

    -- Its keys are in ascending order.
    pub sorted-spread : (es : List (K × V)) → IsTrue (is_sorted R es) → AllValues Good es → IsTrue (is_sorted S (spread part es))
    sorted-spread [] s good = refl
    sorted-spread (e ∷ es) s good =
        let p = and_parts _ _ s in
        sorted_append S (part e.0 e.1) (spread part es) (part_sorted e.0 e.1 good.0) (sorted-spread es p.1 good.1)
        (all_keys_weaker (IsOf e.0) (λ x. IsTrue (below_all S x (spread part es))) (λ a is. below_spread e.0 a is es p.0) (part e.0 e.1) (of_part e.0 e.1))
