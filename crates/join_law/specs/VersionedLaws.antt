-- `Versioned` values are ordered like optional entries, and the greater of two is their least upper bound.
use Rattle.std.proofs.Common.{◌≡◌}
use Rattle.join_law.specs.Prelude.{ap, cond, Equal, false, is_gt, IsTotalOrder, Ordering, refl, Some, subst, sym, true}
use Rattle.join_law.specs.{declared.versions.{Entry.{Entry}, Versioned.{TheVariants.{At, Never}, Versioned}}, EntryLaws.{below_antisym, below_refl, below_trans, entry_cmp-IsAntisymmetric, larger-least, larger-left, larger-right}, Order.{IsJoin, IsLeast}, VersionOrder.{entry_cmp, IsBelow, IsUpTo, larger, versioned_cmp, versioned_max, written}}

-- an entry isn't bottom
pub not_least : {C : Type 0} (R : C → C → Ordering) (x : Entry C) → ¬ IsLeast (IsUpTo R) (At x)
not_least R x least = least Never

-- `Never` is bottom
pub never_least : {C : Type 0} (R : C → C → Ordering) (z : Versioned C) → IsUpTo R Never z
never_least R z = tt

-- values with the same entry are equal
pub written_one : {C : Type 0} (x y : Versioned C) → written x ≡ written y → x ≡ y
written_one Never Never h = refl
written_one Never (At y) h = cc (h)
written_one (At x) Never h = cc (h)
written_one (At x) (At y) h = let e : x ≡ y = cc (h) in ap At e

module _ {C : Type 0} (R : C → C → Ordering) where
  -- the greater value has the greater entry
  pub written-max : (x y : Versioned C) → written (versioned_max R x y) ≡ larger R (written x) (written y)
  written-max Never y = refl
  written-max (At x) Never = refl
  written-max (At x) (At y) = elim (is_gt (entry_cmp R x y)) as (λ b. written (cond b (At x) (At y)) ≡ cond b (Some x) (Some y)) [ true ↦ refl | false ↦ refl ]

  -- a value that is at most another doesn't compare as greater
  pub up_to-cmp : (x y : Versioned C) → IsUpTo R x y → is_gt (versioned_cmp R x y) ≡ false
  up_to-cmp Never Never h = refl
  up_to-cmp Never (At y) h = refl
  up_to-cmp (At x) Never h = absurd h
  up_to-cmp (At x) (At y) h = h

  pub cmp-up_to : (x y : Versioned C) → is_gt (versioned_cmp R x y) ≡ false → IsUpTo R x y
  cmp-up_to Never y h = tt
  cmp-up_to (At x) Never h = cc (h)
  cmp-up_to (At x) (At y) h = h

  module _ (o : IsTotalOrder R) where
    pub up_to_itself : (x : Versioned C) → IsUpTo R x x
    up_to_itself x = below_refl R o (written x)

    pub up_to_chain : (x y z : Versioned C) → IsUpTo R x y → IsUpTo R y z → IsUpTo R x z
    up_to_chain x y z p q = below_trans R o (written x) (written y) (written z) p q

    -- the greater value is the least upper bound
    pub max_joins : (x y : Versioned C) → IsJoin (IsUpTo R) x y (versioned_max R x y)
    max_joins x y =
        let is = written-max x y in
        let left = subst (λ w. IsBelow R (written x) w) (sym is) (larger-left R o (written x) (written y)) in
        let right = subst (λ w. IsBelow R (written y) w) (sym is) (larger-right R o (written x) (written y)) in
        record {
          bounds = λ z. (
            λ h. (up_to_chain x (versioned_max R x y) z left h, up_to_chain y (versioned_max R x y) z right h),
            λ p. subst (λ w. IsBelow R w (written z)) (sym is) (larger-least R o (written x) (written y) (written z) p.0 p.1),
          );
        }

    module _ (exact : (x y : C) → R x y ≡ Equal → x ≡ y) where
      -- values that compare as equal are equal
      pub versioned_exact : (x y : Versioned C) → versioned_cmp R x y ≡ Equal → x ≡ y
      versioned_exact Never Never h = refl
      versioned_exact Never (At y) h = cc (h)
      versioned_exact (At x) Never h = cc (h)
      versioned_exact (At x) (At y) h = ap At (entry_cmp-IsAntisymmetric R o exact x y h)

      -- values that are at most each other are equal
      pub both_up : (x y : Versioned C) → IsUpTo R x y → IsUpTo R y x → x ≡ y
      both_up x y p q = written_one x y (below_antisym R o exact (written x) (written y) p q)

      -- the least upper bound is the greater value
      pub join_is_max : (a b c : Versioned C) → IsJoin (IsUpTo R) a b c → c ≡ versioned_max R a b
      join_is_max a b c j =
          let whole = max_joins a b in
          let m = versioned_max R a b in
          both_up c m
          ((j.bounds m).1 ((whole.bounds m).0 (up_to_itself m)))
          ((whole.bounds c).1 ((j.bounds c).0 (up_to_itself c)))
