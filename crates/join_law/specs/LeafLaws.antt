-- Maps of entries: which entry is at a key of a join, and of a value between a map and a join.
use Rattle.std.proofs.Common.{◌↔◌, ◌≡◌}
use Rattle.join_law.specs.Prelude.{Equal, find, IsTotalOrder, List, None, Option, Ordering, Some}
use Rattle.join_law.specs.{declared.versions.{Entry.{Entry}, Versioned.{TheVariants.{At, Never}, Versioned}}, EntryLaws.{below_antisym, below_refl, larger-least, larger-left, larger-right}, LevelLaws.{between_at, bounds_at, join_at, upper_of}, MapLaws.{map_itself, OptionBounds, OptionJoin}, Maps.{map_union, MapBelow, OptionBelow}, Order.{IsBetween, IsJoin}, UnionLaws.{union_joins}, VersionedLaws.{max_joins, up_to_chain, up_to_itself}, VersionOrder.{IsBelow, IsUpTo, larger, versioned_max, written_at}}

module _ {C : Type 0} (S : C → C → Ordering) where
  -- an optional entry as a `Versioned`
  abbrev pub versioned : Option (Entry C) → Versioned C
  versioned None = Never
  versioned (Some x) = At x

  up_from : (x : Option (Versioned C)) (e : Option (Entry C)) → OptionBelow (IsUpTo S) x (Some (versioned e)) → IsBelow S (written_at x) e
  up_from None e h = tt
  up_from (Some Never) e h = tt
  up_from (Some (At x)) None h = h
  up_from (Some (At x)) (Some y) h = h

  up_to : (x : Option (Versioned C)) (e : Option (Entry C)) → IsBelow S (written_at x) e → OptionBelow (IsUpTo S) x (Some (versioned e))
  up_to None e h = tt
  up_to (Some Never) e h = tt
  up_to (Some (At x)) None h = h
  up_to (Some (At x)) (Some y) h = h

  pub written_below : (x y : Option (Versioned C)) → OptionBelow (IsUpTo S) x y → IsBelow S (written_at x) (written_at y)
  written_below None y h = tt
  written_below (Some x) None h = h Never
  written_below (Some x) (Some y) h = h

  module _ (total : IsTotalOrder S) (exact : (x y : C) → S x y ≡ Equal → x ≡ y) where
    pub written_join : (a b c : Option (Versioned C)) → OptionJoin (IsUpTo S) a b c → written_at c ≡ larger S (written_at a) (written_at b)
    written_join a b c j =
        let x = written_at a in
        let y = written_at b in
        let at_most = up_from c (larger S x y) ((j (Some (versioned (larger S x y)))).1 (up_to a _ (larger-left S total x y), up_to b _ (larger-right S total x y))) in
        let above = (j (Some (versioned (written_at c)))).0 (up_to c _ (below_refl S total (written_at c))) in
        below_antisym S total exact (written_at c) (larger S x y) at_most
        (larger-least S total x y (written_at c) (up_from a _ above.0) (up_from b _ above.1))

    pub written_between : (a b v : Option (Versioned C))
        → ((w : Option (Versioned C)) → OptionBelow (IsUpTo S) a w → OptionBelow (IsUpTo S) b w
        → OptionBelow (IsUpTo S) v w) → IsBelow S (written_at v) (larger S (written_at a) (written_at b))
    written_between a b v h =
        let m = larger S (written_at a) (written_at b) in
        up_from v m (h (Some (versioned m)) (up_to a m (larger-left S total (written_at a) (written_at b))) (up_to b m (larger-right S total (written_at a) (written_at b))))

    pub written_bounds : (a b v r : Option (Versioned C)) → OptionBounds (IsUpTo S) a b v r
        → larger S (written_at v) (written_at r) ≡ larger S (written_at a) (written_at b)
    written_bounds a b v r h =
        below_antisym S total exact _ _ (least v r a b (λ w. (h w).1)) (least a b v r (λ w. (h w).0))
      where
        least : (x y p q : Option (Versioned C))
            → ((w : Option (Versioned C)) → (OptionBelow (IsUpTo S) p w × OptionBelow (IsUpTo S) q w)
            → (OptionBelow (IsUpTo S) x w × OptionBelow (IsUpTo S) y w))
            → IsBelow S (larger S (written_at x) (written_at y)) (larger S (written_at p) (written_at q))
        least x y p q within =
            let m = larger S (written_at p) (written_at q) in
            let both = within (Some (versioned m)) (up_to p m (larger-left S total (written_at p) (written_at q)), up_to q m (larger-right S total (written_at p) (written_at q))) in
            larger-least S total (written_at x) (written_at y) m (up_from x m both.0) (up_from y m both.1)

    module _ {K : Type 0} (R : K → K → Ordering) (o : IsTotalOrder R) (k : K) where
      leaf_itself : (x : Versioned C) → IsUpTo S x x
      leaf_itself = up_to_itself S total

      leaf_chain : (x y z : Versioned C) → IsUpTo S x y → IsUpTo S y z → IsUpTo S x z
      leaf_chain = up_to_chain S total

      upper : (x y : List (K × Versioned C)) → (z : List (K × Versioned C)) × (MapBelow R (IsUpTo S) x z × MapBelow R (IsUpTo S) y z)
      upper = upper_of (MapBelow R (IsUpTo S)) (map_itself (IsUpTo S) leaf_itself leaf_chain R) (map_union R (versioned_max S)) (union_joins R o (IsUpTo S) (versioned_max S) (max_joins S total))

      -- a map below another has entries that aren't greater
      pub leaf_below : (a b : List (K × Versioned C)) → MapBelow R (IsUpTo S) a b
          → IsBelow S (written_at (find R k a)) (written_at (find R k b))
      leaf_below a b h = written_below (find R k a) (find R k b) (h.at k)

      -- a join has the greater entry at each key
      pub leaf_join : (a b c : List (K × Versioned C)) → IsJoin (MapBelow R (IsUpTo S)) a b c
          → written_at (find R k c) ≡ larger S (written_at (find R k a)) (written_at (find R k b))
      leaf_join a b c j = written_join (find R k a) (find R k b) (find R k c) (join_at R o (IsUpTo S) leaf_itself leaf_chain k a b c j)

      -- a value between has no greater entry than the two maps have
      pub leaf_between : (a b v : List (K × Versioned C)) → IsBetween (MapBelow R (IsUpTo S)) a b v
          → IsBelow S (written_at (find R k v)) (larger S (written_at (find R k a)) (written_at (find R k b)))
      leaf_between a b v j = written_between (find R k a) (find R k b) (find R k v) (between_at R o (IsUpTo S) leaf_itself leaf_chain k upper a b v j)

      -- together with the rest it has the greater entry
      pub leaf_bounds : (a b v r : List (K × Versioned C))
          → ((z : List (K × Versioned C)) → (MapBelow R (IsUpTo S) v z × MapBelow R (IsUpTo S) r z)
          ↔ (MapBelow R (IsUpTo S) a z × MapBelow R (IsUpTo S) b z))
          → larger S (written_at (find R k v)) (written_at (find R k r))
          ≡ larger S (written_at (find R k a)) (written_at (find R k b))
      leaf_bounds a b v r h = written_bounds (find R k a) (find R k b) (find R k v) (find R k r) (bounds_at R o (IsUpTo S) leaf_itself leaf_chain k upper a b v r h)
