-- The join of two maps as a function: it is their least upper bound, and the join of two valid maps is valid.
use Rattle.std.proofs.Common.{◌∷◌, ◌≡◌}
use Rattle.join_law.specs.Prelude.{[], ap, cond, eq_by_cmp, false, find, find-put, find_tied, is_equal, IsTotalOrder, List, None, Option, Ordering, refl, Some, subst, sym, true, ◌∙◌}
use Rattle.join_law.specs.{MapLaws.{is_map-put, map_join, option_join, option_new, option_same, OptionJoin}, Maps.{AllHeld, IsHeld, IsMap, joined_value, map_union, MapBelow}, Order.{IsJoin}}

-- the join of two optional values
abbrev pub option_union : {V : Type 0} → (V → V → V) → Option V → Option V → Option V
option_union join None y = y
option_union join (Some x) None = Some x
option_union join (Some x) (Some y) = Some (join x y)

module _ {K V : Type 0} (R : K → K → Ordering) (o : IsTotalOrder R) (below : V → V → Type 0) (join : V → V → V)
    (joins : (x y : V) → IsJoin below x y (join x y)) where
  some_joined : (x : Option V) (y : V) → Some (joined_value join x y) ≡ option_union join x (Some y)
  some_joined None y = refl
  some_joined (Some x) y = refl

  no_other : (x : Option V) → x ≡ option_union join x None
  no_other None = refl
  no_other (Some x) = refl

  pub find-union : (m n : List (K × V)) (q : K) → find R q (map_union R join m n) ≡ option_union join (find R q m) (find R q n)
  find-union m [] q = no_other (find R q m)
  find-union m (e ∷ es) q = find-put R o q e.0 (joined_value join (find R e.0 m) e.1) (map_union R join m es)
      ∙ elim (eq_by_cmp R q e.0) as (λ b. eq_by_cmp R q e.0 ≡ b → cond b (Some (joined_value join (find R e.0 m) e.1)) (find R q (map_union R join m es)) ≡ option_union join (find R q m) (cond b (Some e.1) (find R q es))) [
        | true ↦ λ t. ap (λ x. Some (joined_value join x e.1)) (find_tied R o q e.0 (is_equal _ t) m) ∙ some_joined (find R q m) e.1
        | false ↦ λ t. find-union m es q
      ] refl

  option_union_joins : (x y : Option V) → OptionJoin below x y (option_union join x y)
  option_union_joins None y = option_new below y
  option_union_joins (Some x) None = option_same below (Some x)
  option_union_joins (Some x) (Some y) = option_join below x y (join x y) (joins x y)

  pub union_joins : (m n : List (K × V)) → IsJoin (MapBelow R below) m n (map_union R join m n)
  union_joins m n = map_join R below m n (map_union R join m n) (λ q. subst (OptionJoin below (find R q m) (find R q n)) (sym (find-union m n q)) (option_union_joins (find R q m) (find R q n)))

module _ {K V : Type 0} (R : K → K → Ordering) (o : IsTotalOrder R) (below : V → V → Type 0) (valid : V → Type 0)
    (join : V → V → V) (joins : (x y : V) → IsJoin below x y (join x y))
    (chain : (x y z : V) → below x y → below y z → below x z) (itself : (x : V) → below x x)
    (keeps : (x y : V) → valid x → valid y → valid (join x y)) where
  held_at : (m : List (K × V)) → AllHeld below valid m → (q : K) (v : V) → find R q m ≡ Some v → IsHeld below valid v
  held_at [] h q v e = cc (e)
  held_at (f ∷ fs) h q v e =
      elim (eq_by_cmp R q f.0) as (λ b. cond b (Some f.1) (find R q fs) ≡ Some v → IsHeld below valid v) [
        | true ↦ λ t. let same : f.1 ≡ v = cc (t) in subst (IsHeld below valid) same h.0
        | false ↦ λ t. held_at fs h.1 q v t
      ] e

  held_joined : (x : Option V) (y : V) → ((v : V) → x ≡ Some v → IsHeld below valid v) → IsHeld below valid y
      → IsHeld below valid (joined_value join x y)
  held_joined None y h n = n
  held_joined (Some x) y h n = record {
    not_least = λ least. n.not_least (λ z. (((joins x y).bounds z).0 (least z)).1);
    well_formed = keeps x y (h x refl).well_formed n.well_formed;
  }

  -- the join of maps is a map
  pub union_keeps : (m n : List (K × V)) → IsMap R below valid m → AllHeld below valid n → IsMap R below valid (map_union R join m n)
  union_keeps m [] a h = a
  union_keeps m (e ∷ es) a h =
      is_map-put R below o e.0 valid (map_union R join m es) _
      (held_joined (find R e.0 m) e.1 (held_at m a.held e.0) h.0)
      (union_keeps m es a h.1)
