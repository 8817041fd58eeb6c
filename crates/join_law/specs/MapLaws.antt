-- The order of maps, and how an edit at one key changes a map.
use Rattle.std.{proofs.Common.{◌↔◌, ◌∷◌, ◌≡◌}, specs.FinMap.{find}}
use Rattle.join_law.specs.Prelude.{[], by_order, cond, eq_by_cmp, Equal, false, find-put, find_tied, from_T, Greater, is_eq, is_equal, is_sorted-put, IsTotalOrder, Less, List, None, Option, Ordering, put, refl, Some, subst, sym, tied_itself, to_T, true}
use Rattle.join_law.specs.{Maps.{AllHeld, IsHeld, IsMap, MapBelow, OptionBelow}, Order.{IsJoin, IsLeast}}

module _ {V : Type 0} (below : V → V → Type 0) (itself : (x : V) → below x x)
    (chain : (x y z : V) → below x y → below y z → below x z) where
  pub option_itself : (x : Option V) → OptionBelow below x x
  option_itself None = tt
  option_itself (Some v) = itself v

  pub option_chain : (x y z : Option V) → OptionBelow below x y → OptionBelow below y z → OptionBelow below x z
  option_chain None y z p q = tt
  option_chain (Some v) None None p q = p
  option_chain (Some v) None (Some u) p q = p u
  option_chain (Some v) (Some w) None p q = λ z. chain v w z p (q z)
  option_chain (Some v) (Some w) (Some u) p q = chain v w u p q

  module _ {K : Type 0} (R : K → K → Ordering) where
    pub map_itself : (m : List (K × V)) → MapBelow R below m m
    map_itself m = record { at = λ q. option_itself (find R q m) }

    pub map_chain : (x y z : List (K × V)) → MapBelow R below x y → MapBelow R below y z → MapBelow R below x z
    map_chain x y z p q = record { at = λ k. option_chain (find R k x) (find R k y) (find R k z) (p.at k) (q.at k) }

module _ {V : Type 0} (below : V → V → Type 0) where
  -- c is the least upper bound of a and b; each may be absent
  abbrev pub OptionJoin : Option V → Option V → Option V → Type 0
  OptionJoin a b c = (w : Option V) → OptionBelow below c w ↔ (OptionBelow below a w × OptionBelow below b w)

  -- v and r together have the same upper bounds as a and b
  abbrev pub OptionBounds : Option V → Option V → Option V → Option V → Type 0
  OptionBounds a b v r = (w : Option V) → (OptionBelow below v w × OptionBelow below r w) ↔ (OptionBelow below a w × OptionBelow below b w)

  pub option_join : (a b c : V) → IsJoin below a b c → OptionJoin (Some a) (Some b) (Some c)
  option_join a b c h None = (λ l. (λ z. ((h.bounds z).0 (l z)).0, λ z. ((h.bounds z).0 (l z)).1), λ p z. (h.bounds z).1 (p.0 z, p.1 z))
  option_join a b c h (Some w) = h.bounds w

  pub option_bounds : (a b v r : V) → ((z : V) → (below v z × below r z) ↔ (below a z × below b z))
      → OptionBounds (Some a) (Some b) (Some v) (Some r)
  option_bounds a b v r h None = (λ l. (λ z. ((h z).0 (l.0 z, l.1 z)).0, λ z. ((h z).0 (l.0 z, l.1 z)).1), λ p. (λ z. ((h z).1 (p.0 z, p.1 z)).0, λ z. ((h z).1 (p.0 z, p.1 z)).1))
  option_bounds a b v r h (Some w) = h w

  pub option_new : (b : Option V) → OptionJoin None b b
  option_new b w = (λ h. (tt, h), λ h. h.1)

  pub option_same : (a : Option V) → OptionJoin a None a
  option_same a w = (λ h. (h, tt), λ h. h.0)

module _ {K V : Type 0} (R : K → K → Ordering) (below : V → V → Type 0) where
  -- maps whose values are joined at each key are joined
  pub map_join : (m n r : List (K × V)) → ((q : K) → OptionJoin below (find R q m) (find R q n) (find R q r))
      → IsJoin (MapBelow R below) m n r
  map_join m n r h = record {
    bounds = λ z. (
      λ b. (record { at = λ q. ((h q (find R q z)).0 (b.at q)).0 }, record { at = λ q. ((h q (find R q z)).0 (b.at q)).1 }),
      λ p. record { at = λ q. (h q (find R q z)).1 (p.0.at q, p.1.at q) },
    );
  }

  pub map_bounds : (m n r s : List (K × V))
      → ((q : K) → OptionBounds below (find R q m) (find R q n) (find R q r) (find R q s)) → (z : List (K × V))
      → (MapBelow R below r z × MapBelow R below s z) ↔ (MapBelow R below m z × MapBelow R below n z)
  map_bounds m n r s h z = (
    λ b. (record { at = λ q. ((h q (find R q z)).0 (b.0.at q, b.1.at q)).0 }, record { at = λ q. ((h q (find R q z)).0 (b.0.at q, b.1.at q)).1 }),
    λ p. (record { at = λ q. ((h q (find R q z)).1 (p.0.at q, p.1.at q)).0 }, record { at = λ q. ((h q (find R q z)).1 (p.0.at q, p.1.at q)).1 }),
  )

  module _ (o : IsTotalOrder R) (k : K) where
    -- the map after its value at k was joined with v
    pub join_at_key : (es : List (K × V)) (v new : V) → OptionJoin below (find R k es) (Some v) (Some new)
        → IsJoin (MapBelow R below) es ((k, v) ∷ []) (put R k new es)
    join_at_key es v new h = map_join es ((k, v) ∷ []) (put R k new es) (λ q.
        subst (λ x. OptionJoin below (find R q es) (cond (eq_by_cmp R q k) (Some v) None) x) (sym (find-put R o q k new es))
        (elim (eq_by_cmp R q k) as (λ b. eq_by_cmp R q k ≡ b → OptionJoin below (find R q es) (cond b (Some v) None) (cond b (Some new) (find R q es))) [
          | true ↦ λ t. subst (λ x. OptionJoin below x (Some v) (Some new)) (find_tied R o q k (is_equal _ t) es) h
          | false ↦ λ t. option_same below (find R q es)
        ] refl))

    -- the map after only part of v was joined at k
    pub bounds_at_key : (es : List (K × V)) (v new rest : V)
        → OptionBounds below (find R k es) (Some v) (Some new) (Some rest) → (z : List (K × V))
        → (MapBelow R below (put R k new es) z × MapBelow R below ((k, rest) ∷ []) z)
        ↔ (MapBelow R below es z × MapBelow R below ((k, v) ∷ []) z)
    bounds_at_key es v new rest h = map_bounds es ((k, v) ∷ []) (put R k new es) ((k, rest) ∷ []) (λ q.
        subst (λ x. OptionBounds below (find R q es) (cond (eq_by_cmp R q k) (Some v) None) x (cond (eq_by_cmp R q k) (Some rest) None)) (sym (find-put R o q k new es))
        (elim (eq_by_cmp R q k) as (λ b. eq_by_cmp R q k ≡ b → OptionBounds below (find R q es) (cond b (Some v) None) (cond b (Some new) (find R q es)) (cond b (Some rest) None)) [
          | true ↦ λ t. subst (λ x. OptionBounds below x (Some v) (Some new) (Some rest)) (find_tied R o q k (is_equal _ t) es) h
          | false ↦ λ t w. (λ p. p, λ p. p)
        ] refl))

    -- a map with a greater value at k is greater
    pub below_at_key : ((x : V) → below x x) → (es : List (K × V)) (new : V)
        → OptionBelow below (find R k es) (Some new) → MapBelow R below es (put R k new es)
    below_at_key itself es new h = record {
      at = λ q. subst (λ x. OptionBelow below (find R q es) x) (sym (find-put R o q k new es))
          (elim (eq_by_cmp R q k) as (λ b. eq_by_cmp R q k ≡ b → OptionBelow below (find R q es) (cond b (Some new) (find R q es))) [
            | true ↦ λ t. subst (λ x. OptionBelow below x (Some new)) (find_tied R o q k (is_equal _ t) es) h
            | false ↦ λ t. option_refl (find R q es)
          ] refl);
    }
      where
        option_refl : (x : Option V) → OptionBelow below x x
        option_refl None = tt
        option_refl (Some v) = itself v

    -- a map whose value at k lies between lies between
    pub between_at_key : (es : List (K × V)) (v new : V)
        → ((w : Option V) → OptionBelow below (find R k es) w → OptionBelow below (Some v) w
        → OptionBelow below (Some new) w) → (z : List (K × V)) → MapBelow R below es z
        → MapBelow R below ((k, v) ∷ []) z → MapBelow R below (put R k new es) z
    between_at_key es v new h z p s = record {
      at = λ q. subst (λ x. OptionBelow below x (find R q z)) (sym (find-put R o q k new es))
          (elim (eq_by_cmp R q k) as (λ b. eq_by_cmp R q k ≡ b → OptionBelow below (cond b (Some v) None) (find R q z) → OptionBelow below (cond b (Some new) (find R q es)) (find R q z)) [
            | true ↦ λ t r. h (find R q z) (subst (λ x. OptionBelow below x (find R q z)) (sym (find_tied R o q k (is_equal _ t) es)) (p.at q)) r
            | false ↦ λ t r. p.at q
          ] refl (s.at q));
    }

    held-put : (valid : V → Type 0) (es : List (K × V)) (new : V) → IsHeld below valid new → AllHeld below valid es
        → AllHeld below valid (put R k new es)
    held-put valid [] new n h = (n, tt)
    held-put valid (e ∷ es) new n h = elim (R k e.0) as (λ r. AllHeld below valid (by_order r ((k, new) ∷ e ∷ es) ((e.0, new) ∷ es) (e ∷ put R k new es))) [
      | Less ↦ (n, h)
      | Equal ↦ (n, h.1)
      | Greater ↦ (h.0, held-put valid es new n h.1)
    ]

    pub is_map-put : (valid : V → Type 0) (es : List (K × V)) (new : V) → IsHeld below valid new
        → IsMap R below valid es → IsMap R below valid (put R k new es)
    is_map-put valid es new n h = record { sorted = from_T _ (is_sorted-put R o k new es (to_T _ h.sorted)); held = held-put valid es new n h.held }

    -- a map of one entry isn't bottom if its value isn't
    pub entry_not_least : (v : V) → ¬ IsLeast below v → ¬ IsLeast (MapBelow R below) ((k, v) ∷ [])
    entry_not_least v n least = n (subst (λ r. OptionBelow below (cond (is_eq r) (Some v) None) None) (tied_itself o k) ((least []).at k))

    -- a map of one entry is bottom if its value is
    pub entry_least : (v : V) → IsLeast below v → IsLeast (MapBelow R below) ((k, v) ∷ [])
    entry_least v least z = record {
      at = λ q. elim (eq_by_cmp R q k) as (λ b. OptionBelow below (cond b (Some v) None) (find R q z)) [
        | true ↦ some (find R q z)
        | false ↦ tt
      ];
    }
      where
        some : (w : Option V) → OptionBelow below (Some v) w
        some None = least
        some (Some w) = least w

    -- a map of one entry that an outer map may hold
    pub entry_held : (valid : V → Type 0) (v : V) → IsHeld below valid v → IsHeld (MapBelow R below) (IsMap R below valid) ((k, v) ∷ [])
    entry_held valid v h = record { not_least = entry_not_least v h.not_least; well_formed = record { sorted = refl; held = (h, tt) } }
