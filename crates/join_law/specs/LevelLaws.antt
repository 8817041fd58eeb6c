-- Two maps are joined by joining their values at each key, at every depth of maps of maps.
use Rattle.std.{proofs.Common.{◌↔◌, ◌≡◌}, specs.FinMap.Entries.{put}}
use Rattle.join_law.specs.Prelude.{[], alike_right, ap, Bool, cond, eq_by_cmp, eq_by_cmp_equiv, false, find, find-put, find-where_key, find_tied, is_eq, is_equal, IsTotalOrder, List, None, not, Option, Ordering, refl, Some, subst, sym, tied_itself, true, where_key, ◌∙◌}
use Rattle.join_law.specs.{MapLaws.{map_chain, map_itself, option_chain, OptionBounds, OptionJoin}, Maps.{is_none_or, map_union, MapBelow, OptionBelow, or_empty}, Order.{IsBetween, IsJoin}, UnionLaws.{union_joins}}

-- a test of the value at a key, if the map itself may be absent
pub is_none_or-within : {K V : Type 0} (R : K → K → Ordering) (k : K) (test : V → Bool) (m : Option (List (K × V)))
    → is_none_or (λ n. is_none_or test (find R k n)) m ≡ is_none_or test (find R k (or_empty m))
is_none_or-within R k test None = refl
is_none_or-within R k test (Some n) = refl

module _ {K V : Type 0} (R : K → K → Ordering) (o : IsTotalOrder R) (below : V → V → Type 0)
    (itself : (x : V) → below x x) (chain : (x y z : V) → below x y → below y z → below x z) where
  module _ (k : K) where
    -- r with w at k
    changed : List (K × V) → Option V → List (K × V)
    changed r None = where_key R (λ x. not (eq_by_cmp R k x)) r
    changed r (Some v) = put R k v r

    turn : (b : Bool) (x : Option V) → cond (not b) x None ≡ cond b None x
    turn true x = refl
    turn false x = refl

    find-changed : (r : List (K × V)) (w : Option V) (q : K) → find R q (changed r w) ≡ cond (eq_by_cmp R k q) w (find R q r)
    unfolding changed
    find-changed r None q =
        find-where_key R (λ x. not (eq_by_cmp R k x)) q (λ x t. ap (λ o'. not (is_eq o')) (sym (alike_right o q x k t))) r
        ∙ turn (eq_by_cmp R k q) (find R q r)
    find-changed r (Some v) q = find-put R o q k v r ∙ ap (λ b. cond b (Some v) (find R q r)) (symm q)
      where
        symm : (q : K) → eq_by_cmp R q k ≡ eq_by_cmp R k q
        symm q = (eq_by_cmp_equiv o).symm q k

    below_changed : (m r : List (K × V)) (w : Option V) → MapBelow R below m r → OptionBelow below (find R k m) w
        → MapBelow R below m (changed r w)
    below_changed m r w h at_k = record {
      at = λ q. subst (λ x. OptionBelow below (find R q m) x) (sym (find-changed r w q))
          (elim (eq_by_cmp R k q) as (λ b. eq_by_cmp R k q ≡ b → OptionBelow below (find R q m) (cond b w (find R q r))) [
            | true ↦ λ t. subst (λ x. OptionBelow below x w) (sym (find_tied R o k q (is_equal _ t) m)) at_k
            | false ↦ λ t. h.at q
          ] refl);
    }

    -- the value at each key is the join of the two values
    pub join_at : (m n r : List (K × V)) → IsJoin (MapBelow R below) m n r → OptionJoin below (find R k m) (find R k n) (find R k r)
    join_at m n r j w =
        let up = (j.bounds r).0 (map_itself below itself chain R r) in (
          λ h. (option_chain below itself chain _ _ _ (up.0.at k) h, option_chain below itself chain _ _ _ (up.1.at k) h),
          λ p.
              let at_k = ((j.bounds (changed r w)).1 (below_changed m r w up.0 p.0, below_changed n r w up.1 p.1)).at k in
              subst (λ x. OptionBelow below (find R k r) x) (find-changed r w k ∙ ap (λ o'. cond (is_eq o') w (find R k r)) (tied_itself o k)) at_k,
        )

    -- the same for what is left after memory ran out
    pub bounds_at : ((x y : List (K × V)) → (z : List (K × V)) × (MapBelow R below x z × MapBelow R below y z))
        → (a b v r : List (K × V))
        → ((z : List (K × V)) → (MapBelow R below v z × MapBelow R below r z)
        ↔ (MapBelow R below a z × MapBelow R below b z))
        → OptionBounds below (find R k a) (find R k b) (find R k v) (find R k r)
    bounds_at upper a b v r h w =
        let at_k : (m u : List (K × V)) → MapBelow R below m (changed u w) → OptionBelow below (find R k m) w = λ m u l.
        subst (λ x. OptionBelow below (find R k m) x) (find-changed u w k ∙ ap (λ o'. cond (is_eq o') w (find R k u)) (tied_itself o k)) (l.at k) in (
          λ p.
              let u = upper v r in
              let both = (h (changed u.0 w)).0 (below_changed v u.0 w u.1.0 p.0, below_changed r u.0 w u.1.1 p.1) in
              (at_k a u.0 both.0, at_k b u.0 both.1),
          λ p.
              let u = upper a b in
              let both = (h (changed u.0 w)).1 (below_changed a u.0 w u.1.0 p.0, below_changed b u.0 w u.1.1 p.1) in
              (at_k v u.0 both.0, at_k r u.0 both.1),
        )

    -- the same for values between
    pub between_at : ((x y : List (K × V)) → (z : List (K × V)) × (MapBelow R below x z × MapBelow R below y z))
        → (a b v : List (K × V)) → IsBetween (MapBelow R below) a b v → (w : Option V)
        → OptionBelow below (find R k a) w → OptionBelow below (find R k b) w → OptionBelow below (find R k v) w
    between_at upper a b v j w p q =
        let u = upper a b in
        let above = j.within (changed u.0 w) (below_changed a u.0 w u.1.0 p) (below_changed b u.0 w u.1.1 q) in
        subst (λ x. OptionBelow below (find R k v) x) (find-changed u.0 w k ∙ ap (λ o'. cond (is_eq o') w (find R k u.0)) (tied_itself o k)) (above.at k)

  -- an absent map counts as empty
  pub join_or_empty : (a b c : Option (List (K × V))) → OptionJoin (MapBelow R below) a b c
      → IsJoin (MapBelow R below) (or_empty a) (or_empty b) (or_empty c)
  join_or_empty a b c h = record { bounds = λ z. (λ l. let t = (h (Some z)).0 (there c z l) in (here a z t.0, here b z t.1), λ p. here c z ((h (Some z)).1 (there a z p.0, there b z p.1))) }
    where
      here : (x : Option (List (K × V))) (z : List (K × V)) → OptionBelow (MapBelow R below) x (Some z) → MapBelow R below (or_empty x) z
      here None z h = record { at = λ q. tt }
      here (Some m) z h = h

      there : (x : Option (List (K × V))) (z : List (K × V)) → MapBelow R below (or_empty x) z → OptionBelow (MapBelow R below) x (Some z)
      there None z h = tt
      there (Some m) z h = h

  nothing_below : (z : List (K × V)) → MapBelow R below [] z
  nothing_below z = record { at = λ q. tt }

  from_option : (x : Option (List (K × V))) (z : List (K × V)) → OptionBelow (MapBelow R below) x (Some z) → MapBelow R below (or_empty x) z
  from_option None z h = nothing_below z
  from_option (Some m) z h = h

  to_option : (x : Option (List (K × V))) (z : List (K × V)) → MapBelow R below (or_empty x) z → OptionBelow (MapBelow R below) x (Some z)
  to_option None z h = tt
  to_option (Some m) z h = h

  pub below_or_empty : (x y : Option (List (K × V))) → OptionBelow (MapBelow R below) x y → MapBelow R below (or_empty x) (or_empty y)
  below_or_empty None y h = nothing_below (or_empty y)
  below_or_empty (Some m) None h = h []
  below_or_empty (Some m) (Some n) h = h

  pub bounds_or_empty : (a b v r : Option (List (K × V))) → OptionBounds (MapBelow R below) a b v r → (z : List (K × V))
      → (MapBelow R below (or_empty v) z × MapBelow R below (or_empty r) z)
      ↔ (MapBelow R below (or_empty a) z × MapBelow R below (or_empty b) z)
  bounds_or_empty a b v r h z = (
    λ p. let t = (h (Some z)).0 (to_option v z p.0, to_option r z p.1) in (from_option a z t.0, from_option b z t.1),
    λ p. let t = (h (Some z)).1 (to_option a z p.0, to_option b z p.1) in (from_option v z t.0, from_option r z t.1),
  )

  nothing_between : (a b v : Option (List (K × V)))
      → ((w : Option (List (K × V))) → OptionBelow (MapBelow R below) a w → OptionBelow (MapBelow R below) b w
      → OptionBelow (MapBelow R below) v w) → (z : List (K × V)) → MapBelow R below (or_empty a) z
      → MapBelow R below (or_empty b) z → MapBelow R below (or_empty v) z
  nothing_between a b v h z p q = from_option v z (h (Some z) (to_option a z p) (to_option b z q))

-- a join is above both values
pub upper_of : {A : Type 0} (below : A → A → Type 0) (itself : (x : A) → below x x) (join : A → A → A)
    (joins : (x y : A) → IsJoin below x y (join x y)) (x y : A) → (z : A) × (below x z × below y z)
upper_of below itself join joins x y = (join x y, ((joins x y).bounds (join x y)).0 (itself (join x y)))

module _ {K L V : Type 0} (R : K → K → Ordering) (o : IsTotalOrder R) (S : L → L → Ordering) (t : IsTotalOrder S)
    (below : V → V → Type 0) (itself : (x : V) → below x x) (chain : (x y z : V) → below x y → below y z → below x z)
    (k : K) where
  inner_itself : (x : List (L × V)) → MapBelow S below x x
  inner_itself = map_itself below itself chain S

  inner_chain : (x y z : List (L × V)) → MapBelow S below x y → MapBelow S below y z → MapBelow S below x z
  inner_chain = map_chain below itself chain S

  -- maps of maps: if one is below another, so are their inner maps at a key
  pub level_below : (a b : List (K × List (L × V))) → MapBelow R (MapBelow S below) a b
      → MapBelow S below (or_empty (find R k a)) (or_empty (find R k b))
  level_below a b h = below_or_empty S t below itself chain _ _ (h.at k)

  -- the inner maps are joined
  pub level_join : (a b c : List (K × List (L × V))) → IsJoin (MapBelow R (MapBelow S below)) a b c
      → IsJoin (MapBelow S below) (or_empty (find R k a)) (or_empty (find R k b)) (or_empty (find R k c))
  level_join a b c j = join_or_empty S t below itself chain _ _ _ (join_at R o (MapBelow S below) inner_itself inner_chain k a b c j)

  module _ (join : V → V → V) (joins : (x y : V) → IsJoin below x y (join x y)) where
    outer_upper : (x y : List (K × List (L × V)))
        → (z : List (K × List (L × V))) × (MapBelow R (MapBelow S below) x z × MapBelow R (MapBelow S below) y z)
    outer_upper = upper_of (MapBelow R (MapBelow S below)) (map_itself (MapBelow S below) inner_itself inner_chain R) (map_union R (map_union S join)) (union_joins R o (MapBelow S below) (map_union S join) (union_joins S t below join joins))

    -- the inner maps lie between
    pub level_between : (a b v : List (K × List (L × V))) → IsBetween (MapBelow R (MapBelow S below)) a b v
        → IsBetween (MapBelow S below) (or_empty (find R k a)) (or_empty (find R k b)) (or_empty (find R k v))
    level_between a b v j = record {
      kept = level_below a v j.kept;
      within = nothing_between S t below itself chain _ _ _ (between_at R o (MapBelow S below) inner_itself inner_chain k outer_upper a b v j);
    }

    -- the inner maps have the same upper bounds
    pub level_bounds : (a b v r : List (K × List (L × V)))
        → ((z : List (K × List (L × V))) → (MapBelow R (MapBelow S below) v z × MapBelow R (MapBelow S below) r z)
        ↔ (MapBelow R (MapBelow S below) a z × MapBelow R (MapBelow S below) b z))
        → (z : List (L × V)) → (MapBelow S below (or_empty (find R k v)) z × MapBelow S below (or_empty (find R k r)) z)
        ↔ (MapBelow S below (or_empty (find R k a)) z × MapBelow S below (or_empty (find R k b)) z)
    level_bounds a b v r h = bounds_or_empty S t below itself chain _ _ _ _ (bounds_at R o (MapBelow S below) inner_itself inner_chain k outer_upper a b v r h)
