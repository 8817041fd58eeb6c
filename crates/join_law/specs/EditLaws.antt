-- The map after an edit of one pair.
use Rattle.std.proofs.Common.{◌++◌, ◌↔◌, ◌∷◌, ◌≡◌}
use Rattle.join_law.specs.{MapLaws.{below_at_key, between_at_key, bounds_at_key, entry_least, entry_not_least, is_map-put, join_at_key, map_itself, option_bounds, option_join, option_new, OptionBounds, OptionJoin}, Maps.{AllHeld, IsMap, MapBelow, OptionBelow}, Order.{IsBetween, IsJoin, IsLeast, IsPartialJoin}, Prelude.{[], ap, arith, Bool, cond, drop, find, find_at, find_gap, get_or, insert, insert_is_put, is_eq, IsAt, IsGap, IsTotalOrder, IsTrue, length, List, None, Option, Ordering, put, refl, set, set_is_put, Some, subst, suc, sym, take, tied_itself, zero, ℕ, ◌∙◌}}

at_itself : {K V : Type 0} (R : K → K → Ordering) (o : IsTotalOrder R) (below : V → V → Type 0) (k : K) (v : V)
    (es : List (K × V)) → MapBelow R below ((k, v) ∷ []) es → OptionBelow below (Some v) (find R k es)
at_itself R o below k v es h = subst (λ r. OptionBelow below (cond (is_eq r) (Some v) None) (find R k es)) (tied_itself o k) (h.at k)

-- writing the old element changes nothing
pub set_same : {A : Type 0} (es : List A) (i : ℕ) (e : A) → e ≡ get_or es i e → set es i e ≡ es
set_same [] i e h = refl
set_same (f ∷ fs) zero e h = ap (λ x. x ∷ fs) h
set_same (f ∷ fs) (suc i) e h = ap (λ xs. f ∷ xs) (set_same fs i e h)

-- what was borrowed as a slice, and came back as it was
pub written_same : {A : Type 0} (items new : List A) (n : ℕ) → n ≡ length items → new ≡ items
    → take n (new ++ drop (length new) items) ≡ items
written_same items new n len same = ap (λ l. take n (l ++ drop (length l) items)) same ∙ back items n len
  where
    back : {A : Type 0} (xs : List A) (n : ℕ) → n ≡ length xs → take n (xs ++ drop (length xs) xs) ≡ xs
    back [] zero len = refl
    back [] (suc n) len = absurd (omega (arith, len))
    back (x ∷ xs) zero len = absurd (omega (arith, len))
    back (x ∷ xs) (suc n) len = ap (λ l. x ∷ l) (back xs n (omega (arith, len)))

-- a pair adds a key exactly if its value does
pub added_with : {K V : Type 0} (R : K → K → Ordering) (o : IsTotalOrder R) (below : V → V → Type 0) (k : K) (v : V)
    (added new : Bool) → IsTrue added ↔ (IsTrue new × ¬ IsLeast below v) → IsTrue added
    ↔ (IsTrue new × ¬ IsLeast (MapBelow R below) ((k, v) ∷ []))
added_with R o below k v added new h = (
  λ t. let both = h.0 t in (both.0, entry_not_least R below o k v both.1),
  λ both. h.1 (both.0, λ least. both.1 (entry_least R below o k v least)),
)

module _ {K V : Type 0} (R : K → K → Ordering) (o : IsTotalOrder R) (valid : V → Type 0) (below : V → V → Type 0)
    (itself : (x : V) → below x x) (chain : (x y z : V) → below x y → below y z → below x z) where
  none_least_at : (k : K) (es : List (K × V)) (i : ℕ) (d : K × V) → IsAt R k es i → AllHeld below valid es
      → ¬ IsLeast below (get_or es i d).1
  none_least_at k [] i d a n = absurd a
  none_least_at k (e ∷ es) zero d a n = n.0.not_least
  none_least_at k (e ∷ es) (suc i) d a n = none_least_at k es i d a.1 n.1

  module _ (k : K) (es : List (K × V)) (i : ℕ) (m : IsMap R below valid es) where
    module _ (e : K × V) (a : IsAt R k es i) (here : e ≡ get_or es i e) where
      written : (new : V) → set es i (e.0, new) ≡ put R k new es
      written new = ap (λ x. set es i (x.0, new)) here ∙ set_is_put R k es i new e a

      found : find R k es ≡ Some e.1
      found = find_at R k es i e a ∙ sym (ap (λ x. Some x.1) here)

      not_least_here : ¬ IsLeast below e.1
      not_least_here = subst (λ x. ¬ IsLeast below x.1) (sym here) (none_least_at k es i e a m.held)

      pub joined_is_map : (v new : V) → valid new → IsJoin below e.1 v new → IsMap R below valid (set es i (e.0, new))
      joined_is_map v new ok j = subst (IsMap R below valid) (sym (written new)) (is_map-put R below o k valid es new (record { not_least = λ least. not_least_here (λ z. ((j.bounds z).0 (least z)).0); well_formed = ok }) m)

      pub joined_is_join : (v new : V) → IsJoin below e.1 v new → IsJoin (MapBelow R below) es ((k, v) ∷ []) (set es i (e.0, new))
      joined_is_join v new j = subst (IsJoin (MapBelow R below) es ((k, v) ∷ [])) (sym (written new)) (join_at_key R below o k es v new (subst (λ x. OptionJoin below x (Some v) (Some new)) (sym found) (option_join below e.1 v new j)))

      pub partly_is_map : (v new rest : V) → valid new → IsPartialJoin below e.1 v new rest → IsMap R below valid (set es i (e.0, new))
      partly_is_map v new rest ok j = subst (IsMap R below valid) (sym (written new)) (is_map-put R below o k valid es new (record { not_least = λ least. not_least_here (λ z. chain e.1 new z j.kept (least z)); well_formed = ok }) m)

      pub partly_is_join : (v new rest : V) → IsPartialJoin below e.1 v new rest
          → IsPartialJoin (MapBelow R below) es ((k, v) ∷ []) (set es i (e.0, new)) ((k, rest) ∷ [])
      partly_is_join v new rest j = subst (λ x. IsPartialJoin (MapBelow R below) es ((k, v) ∷ []) x ((k, rest) ∷ [])) (sym (written new)) (record {
        kept = below_at_key R below o k itself es new (subst (λ x. OptionBelow below x (Some new)) (sym found) j.kept);
        bounds = bounds_at_key R below o k es v new rest (subst (λ x. OptionBounds below x (Some v) (Some new) (Some rest)) (sym found) (option_bounds below e.1 v new rest j.bounds));
        left = entry_not_least R below o k rest j.left;
      })

      -- a value that is already there
      pub known_here : (v : V) → MapBelow R below ((k, v) ∷ []) es → below v e.1
      known_here v h = subst (λ x. OptionBelow below (Some v) x) found (at_itself R o below k v es h)

      pub between_is_map : (v new : V) → valid new → IsBetween below e.1 v new → IsMap R below valid (set es i (e.0, new))
      between_is_map v new ok j = subst (IsMap R below valid) (sym (written new)) (is_map-put R below o k valid es new (record { not_least = λ least. not_least_here (λ z. chain e.1 new z j.kept (least z)); well_formed = ok }) m)

      pub between_is_between : (v new : V) → IsBetween below e.1 v new → IsBetween (MapBelow R below) es ((k, v) ∷ []) (set es i (e.0, new))
      between_is_between v new j = subst (IsBetween (MapBelow R below) es ((k, v) ∷ [])) (sym (written new)) (record {
        kept = below_at_key R below o k itself es new (subst (λ x. OptionBelow below x (Some new)) (sym found) j.kept);
        within = between_at_key R below o k es v new (λ w. subst (λ x. OptionBelow below x w → OptionBelow below (Some v) w → OptionBelow below (Some new) w) (sym found) (inside w));
      })
        where
          inside : (w : Option V) → OptionBelow below (Some e.1) w → OptionBelow below (Some v) w → OptionBelow below (Some new) w
          inside None p q = λ z. j.within z (p z) (q z)
          inside (Some w) p q = j.within w p q

    module _ (v : V) (n : ¬ IsLeast below v) where
      pub unchanged_is_between : IsBetween (MapBelow R below) es ((k, v) ∷ []) es
      unchanged_is_between = record { kept = map_itself below itself chain R es; within = λ z p q. p }

      pub refused_is_join : IsPartialJoin (MapBelow R below) es ((k, v) ∷ []) es ((k, v) ∷ [])
      refused_is_join = record {
        kept = map_itself below itself chain R es;
        bounds = λ z. (λ p. p, λ p. p);
        left = entry_not_least R below o k v n;
      }

      module _ (g : IsGap R k es i) where
        pub not_known : ¬ (MapBelow R below ((k, v) ∷ []) es)
        not_known h = n (subst (λ x. OptionBelow below (Some v) x) (find_gap R k o es i m.sorted g) (at_itself R o below k v es h))

        pub inserted_is_map : valid v → IsMap R below valid (insert es i (k, v))
        inserted_is_map ok = subst (IsMap R below valid) (sym (insert_is_put R k es i v g)) (is_map-put R below o k valid es v (record { not_least = n; well_formed = ok }) m)

        pub inserted_is_join : IsJoin (MapBelow R below) es ((k, v) ∷ []) (insert es i (k, v))
        inserted_is_join = subst (IsJoin (MapBelow R below) es ((k, v) ∷ [])) (sym (insert_is_put R k es i v g)) (join_at_key R below o k es v v (subst (λ x. OptionJoin below x (Some v) (Some v)) (sym (find_gap R k o es i m.sorted g)) (option_new below (Some v))))
