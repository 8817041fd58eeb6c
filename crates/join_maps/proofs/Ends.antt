-- A map without its last pair, and a loop that joins pairs from the end.
use Rattle.std.proofs.Common.{◌&&◌, ◌++◌, ◌↔◌, ◌∷◌, ◌≡◌, ◌⊎◌}
use Rattle.join_maps.proofs.Prelude.{[], AllHeld, and_parts, ap, append-nil, below_all, Bool, cond, eq_by_cmp, false, find, find-append, find_tied, Greater, IfSome, inl, inr, is_eq, is_equal, is_less, is_lt, is_sorted, IsHeld, IsJoin, IsLeast, IsMap, IsPartialJoin, IsSinglePair, IsTotalOrder, IsTrue, Less, List, map_chain, map_itself, MapBelow, None, Option, option_to_list, OptionBelow, Ordering, ordering_reverse, refl, Some, subst, sym, tied_itself, true, ◌∙◌}

both : (a b : Bool) → IsTrue a → IsTrue b → IsTrue (a && b)
both true b p q = q
both false b p q = cc (p)

both_first : (a b : Bool) → IsTrue (a && b) → IsTrue a
both_first a b p = (and_parts a b p).0

both_second : (a b : Bool) → IsTrue (a && b) → IsTrue b
both_second a b p = (and_parts a b p).1

module _ {K V : Type 0} (R : K → K → Ordering) (below : V → V → Type 0) where
  below_all_init : (x : K) (xs : List (K × V)) (e : K × V) → IsTrue (below_all R x (xs ++ e ∷ [])) → IsTrue (below_all R x xs) × IsTrue (is_lt (R x e.0))
  below_all_init x [] e h = (refl, both_first _ _ h)
  below_all_init x (f ∷ xs) e h = let t = below_all_init x xs e (both_second _ _ h) in (both _ _ (both_first _ _ h) t.0, t.1)

  below_all_alike : (x k : K) (v w : V) (xs : List (K × V)) → below_all R x (xs ++ (k, v) ∷ []) ≡ below_all R x (xs ++ (k, w) ∷ [])
  below_all_alike x k v w [] = refl
  below_all_alike x k v w (f ∷ xs) = ap (λ b. is_lt (R x f.0) && b) (below_all_alike x k v w xs)

  pub sorted_alike : (k : K) (v w : V) (xs : List (K × V)) → is_sorted R (xs ++ (k, v) ∷ []) ≡ is_sorted R (xs ++ (k, w) ∷ [])
  sorted_alike k v w [] = refl
  sorted_alike k v w (f ∷ xs) = λ i. below_all_alike f.0 k v w xs i && sorted_alike k v w xs i

  sorted_init : (xs : List (K × V)) (e : K × V) → IsTrue (is_sorted R (xs ++ e ∷ [])) → IsTrue (is_sorted R xs)
  sorted_init [] e h = refl
  sorted_init (f ∷ xs) e h = both _ _ (below_all_init f.0 xs e (both_first _ _ h)).0 (sorted_init xs e (both_second _ _ h))

  held_init : (valid : V → Type 0) (xs : List (K × V)) (e : K × V) → AllHeld below valid (xs ++ e ∷ []) → AllHeld below valid xs
  held_init valid [] e h = tt
  held_init valid (f ∷ xs) e h = (h.0, held_init valid xs e h.1)

  held_push : (valid : V → Type 0) (xs : List (K × V)) (e : K × V) → AllHeld below valid xs → IsHeld below valid e.1 → AllHeld below valid (xs ++ e ∷ [])
  held_push valid [] e h n = (n, tt)
  held_push valid (f ∷ xs) e h n = (h.0, held_push valid xs e h.1 n)

  pub init_is_map : (valid : V → Type 0) (xs : List (K × V)) (e : K × V) → IsMap R below valid (xs ++ e ∷ []) → IsMap R below valid xs
  init_is_map valid xs e m = record { sorted = sorted_init xs e m.sorted; held = held_init valid xs e m.held }

  -- part of the last value is put back
  pub back_is_map : (valid : V → Type 0) (xs : List (K × V)) (k : K) (v w : V) → IsMap R below valid (xs ++ (k, v) ∷ []) → IsHeld below valid w → IsMap R below valid (xs ++ (k, w) ∷ [])
  back_is_map valid xs k v w m n = record { sorted = sym (sorted_alike k v w xs) ∙ m.sorted; held = held_push valid xs (k, w) (held_init valid xs (k, v) m.held) n }

  module _ (o : IsTotalOrder R) where
    turned : (x y : K) → R x y ≡ Less → R y x ≡ Greater
    turned x y p = o.antisymm y x ∙ ap ordering_reverse p

    pub find_last : (xs : List (K × V)) (k : K) (v : V) → IsTrue (is_sorted R (xs ++ (k, v) ∷ [])) → find R k xs ≡ None
    find_last [] k v h = refl
    find_last (f ∷ xs) k v h = ap (λ r. cond (is_eq r) (Some f.1) (find R k xs)) (turned f.0 k (is_less _ (below_all_init f.0 xs (k, v) (both_first _ _ h)).1)) ∙ find_last xs k v (both_second _ _ h)

    end_at : (b : Bool) (x : Option V) (v : V) (w : Option V) → (b ≡ true → x ≡ None) → OptionBelow below (cond b (Some v) x) w ↔ (OptionBelow below x w × OptionBelow below (cond b (Some v) None) w)
    end_at true x v w n = (λ h. (subst (λ y. OptionBelow below y w) (sym (n refl)) tt, h), λ p. p.1)
    end_at false x v w n = (λ h. (h, tt), λ p. p.0)

    -- a map is all its entries but the last, and the last
    pub below_end : (xs : List (K × V)) (k : K) (v : V) → find R k xs ≡ None → (z : List (K × V)) → MapBelow R below (xs ++ (k, v) ∷ []) z ↔ (MapBelow R below xs z × MapBelow R below ((k, v) ∷ []) z)
    below_end xs k v none z =
        let at : (q : K) → OptionBelow below (find R q (xs ++ (k, v) ∷ [])) (find R q z) ↔ (OptionBelow below (find R q xs) (find R q z) × OptionBelow below (cond (eq_by_cmp R q k) (Some v) None) (find R q z)) =
        λ q. subst (λ x. OptionBelow below x (find R q z) ↔ (OptionBelow below (find R q xs) (find R q z) × OptionBelow below (cond (eq_by_cmp R q k) (Some v) None) (find R q z))) (sym (find-append R o xs k v q none))
        (end_at (eq_by_cmp R q k) (find R q xs) v (find R q z) (λ t. sym (find_tied R o q k (is_equal _ t) xs) ∙ none)) in
        (λ h. (record { at = λ q. ((at q).0 (h.at q)).0 }, record { at = λ q. ((at q).0 (h.at q)).1 }), λ p. record { at = λ q. (at q).1 (p.0.at q, p.1.at q) })

    last_not_least : (xs : List (K × V)) (k : K) (v : V) → find R k xs ≡ None → ¬ IsLeast below v → ¬ IsLeast (MapBelow R below) (xs ++ (k, v) ∷ [])
    last_not_least xs k v none n least =
        n (subst (λ r. OptionBelow below (cond (is_eq r) (Some v) (find R k xs)) None) (tied_itself o k) (subst (λ x. OptionBelow below x None) (find-append R o xs k v k none) ((least []).at k)))

-- the state of a loop that joins the entries of `other` into a map: the current map, and what is left
pub record IsUnderWay {K V : Type 0} (R : K → K → Ordering) (valid : V → Type 0) (below : V → V → Type 0) (is_single : V → Type 0) (first other now left : List (K × V)) : Type 0 where
  pub map : IsMap R below valid now
  pub left_map : IsMap R below valid left
  pub kept : MapBelow R below first now
  pub bounds : (z : List (K × V)) → (MapBelow R below now z × MapBelow R below left z) ↔ (MapBelow R below first z × MapBelow R below other z)
  pub single : IsSinglePair is_single other → ((now ≡ first) × (left ≡ other)) ⊎ (left ≡ [])

-- Upper bounds after a failure: what is left was split into one pair and the others, and part of that pair remains.
pub stopped_bounds : {First Other Now New Left Was Rest LeftWas LeftRest : Type 0} → (Now × LeftWas) ↔ (First × Other) → (New × Rest) ↔ (Now × Was) → LeftWas ↔ (Left × Was) → LeftRest ↔ (Left × Rest) → (New × LeftRest) ↔ (First × Other)
stopped_bounds so_far here was rest = (
  λ p. let e = rest.0 p.1 in let b = here.0 (p.0, e.1) in so_far.0 (b.0, was.1 (e.0, b.1)),
  λ p. let b = so_far.1 p in let e = was.0 b.1 in let c = here.1 (b.0, e.1) in (c.0, rest.1 (e.0, c.1)),
)

module _ {K V : Type 0} (R : K → K → Ordering) (o : IsTotalOrder R) (valid : V → Type 0) (below : V → V → Type 0) (itself : (x : V) → below x x) (chain : (x y z : V) → below x y → below y z → below x z) (is_single : V → Type 0) where
  pub under_way_first : (es other : List (K × V)) → IsMap R below valid es → IsMap R below valid other → IsUnderWay R valid below is_single es other es other
  under_way_first es other m n = record {
    map = m;
    left_map = n;
    kept = map_itself below itself chain R es;
    bounds = λ z. (λ p. p, λ p. p);
    single = λ _. inl (refl, refl);
  }

  module _ (first other now : List (K × V)) where
    pub under_way_done : IsUnderWay R valid below is_single first other now [] → IsJoin (MapBelow R below) first other now
    under_way_done u = record { bounds = λ z. (λ h. (u.bounds z).0 (h, record { at = λ q. tt }), λ p. ((u.bounds z).1 p).0) }

    module _ (xs : List (K × V)) (k : K) (v : V) (u : IsUnderWay R valid below is_single first other now (xs ++ (k, v) ∷ [])) where
      none : find R k xs ≡ None
      none = find_last R below o xs k v u.left_map.sorted

      no_longer : (left : List (K × V)) → left ≡ xs ++ (k, v) ∷ [] → left ≡ other → IsSinglePair is_single other → (xs ≡ []) × is_single v
      no_longer left e f s = by_cases xs (subst (IsSinglePair is_single) (sym f ∙ e) s)
        where
          by_cases : (ys : List (K × V)) → IsSinglePair is_single (ys ++ (k, v) ∷ []) → (ys ≡ []) × is_single v
          by_cases [] s = (refl, s)
          by_cases (y ∷ []) s = absurd s
          by_cases (y ∷ y' ∷ ys) s = absurd s

      not_empty : (ys : List (K × V)) → ¬ (ys ++ (k, v) ∷ [] ≡ [])
      not_empty [] e = cc (e)
      not_empty (y ∷ ys) e = cc (e)

      single_last : IsSinglePair is_single other → (now ≡ first) × ((xs ≡ []) × is_single v)
      single_last s = elim (u.single s) [
        | inl p ↦ (p.0, no_longer (xs ++ (k, v) ∷ []) refl p.1 s)
        | inr e ↦ absurd (not_empty xs e)
      ]

      pub under_way_more : (new : List (K × V)) → IsMap R below valid new → IsJoin (MapBelow R below) now ((k, v) ∷ []) new → IsUnderWay R valid below is_single first other new xs
      under_way_more new m j = record {
        map = m;
        left_map = init_is_map R below valid xs (k, v) u.left_map;
        kept = map_chain below itself chain R first now new u.kept ((j.bounds new).0 (map_itself below itself chain R new)).0;
        bounds = λ z. (
          λ p. let b = (j.bounds z).0 p.0 in (u.bounds z).0 (b.0, (below_end R below o xs k v none z).1 (p.1, b.1)),
          λ p. let b = (u.bounds z).1 p in let e = (below_end R below o xs k v none z).0 b.1 in ((j.bounds z).1 (b.0, e.1), e.0),
        );
        single = λ s. inr (single_last s).1.0;
      }

      module _ (new : List (K × V)) (w : V) (j : IsPartialJoin (MapBelow R below) now ((k, v) ∷ []) new ((k, w) ∷ [])) (n : ¬ IsLeast below w) where
        pub under_way_stopped : IsPartialJoin (MapBelow R below) first other new (xs ++ (k, w) ∷ [])
        under_way_stopped = record {
          kept = map_chain below itself chain R first now new u.kept j.kept;
          bounds = λ z. stopped_bounds (u.bounds z) (j.bounds z) (below_end R below o xs k v none z) (below_end R below o xs k w none z);
          left = last_not_least R below o xs k w none n;
        }

        pub back_again : valid w → IsMap R below valid (xs ++ (k, w) ∷ [])
        back_again ok = back_is_map R below valid xs k v w u.left_map (record { not_least = n; well_formed = ok })

      pub single_stopped : (new : List (K × V)) → (is_single v → new ≡ now) → IsSinglePair is_single other → new ≡ first
      single_stopped new h s = h (single_last s).1.1 ∙ (single_last s).0

      module _ (new : List (K × V)) (rest : K × V) (same : rest.0 ≡ k) (j : IsPartialJoin (MapBelow R below) now ((k, v) ∷ []) new (rest ∷ [])) (n : ¬ IsLeast below rest.1) where
        whole : (k, rest.1) ≡ rest
        whole = ap (λ x. (x, rest.1)) (sym same)

        pub stopped_is_join : IsPartialJoin (MapBelow R below) first other new (xs ++ rest ∷ [])
        stopped_is_join = subst (λ e. IsPartialJoin (MapBelow R below) first other new (xs ++ e ∷ [])) whole
            (under_way_stopped new rest.1 (subst (λ e. IsPartialJoin (MapBelow R below) now ((k, v) ∷ []) new (e ∷ [])) (sym whole) j) n)

        pub stopped_is_map : valid rest.1 → IsMap R below valid (xs ++ rest ∷ [])
        stopped_is_map ok = subst (λ e. IsMap R below valid (xs ++ e ∷ [])) whole
            (back_again new rest.1 (subst (λ e. IsPartialJoin (MapBelow R below) now ((k, v) ∷ []) new (e ∷ [])) (sym whole) j) n ok)

module _ {K V : Type 0} (R : K → K → Ordering) (below : V → V → Type 0) (valid : V → Type 0) where
  -- a map whose last pair, if any, was removed
  pub popped_is_map : (es left : List (K × V)) (last : Option (K × V)) → es ≡ left ++ option_to_list last → IsMap R below valid es → IsMap R below valid left
  popped_is_map es left None is m = subst (IsMap R below valid) (is ∙ append-nil left) m
  popped_is_map es left (Some e) is m = init_is_map R below valid left e (subst (IsMap R below valid) is m)

  held_last : (xs : List (K × V)) (e : K × V) → AllHeld below valid (xs ++ e ∷ []) → IsHeld below valid e.1
  held_last [] e h = h.0
  held_last (x ∷ xs) e h = held_last xs e h.1

  pub popped_is_held : (es left : List (K × V)) (last : Option (K × V)) → es ≡ left ++ option_to_list last → IsMap R below valid es → IfSome last (λ e. IsHeld below valid e.1)
  popped_is_held es left None is m = tt
  popped_is_held es left (Some e) is m = held_last left e (subst (IsMap R below valid) is m).held
