-- The order of entries is total, and the greater of two entries is their least upper bound.
use Rattle.std.proofs.Common.{◌≡◌, ◌⊎◌}
use Rattle.join_law.specs.Prelude.{ap, cond, Equal, false, Greater, inl, inr, is_gt, IsTotalOrder, Less, None, on_total, Option, Ordering, ordering_reverse, refl, Some, then_total, tied_itself, true, upto}
use Rattle.join_law.specs.{declared.versions.Entry.{Entry}, VersionOrder.{entry_cmp, IsBelow, larger, version_cmp}, VersionOrderLaws.{both_exact, version_cmp-IsAntisymmetric, version_cmp_total}}

-- if neither of two compares as greater than the other, they tie
tie : (a b : Ordering) → a ≡ ordering_reverse b → is_gt a ≡ false → is_gt b ≡ false → a ≡ Equal
tie Less Less e h k = cc
tie Less Equal e h k = cc
tie Less Greater e h k = cc
tie Equal b e h k = refl
tie Greater b e h k = cc

not_gt_back : (a b : Ordering) → a ≡ ordering_reverse b → is_gt a ≡ true → is_gt b ≡ false
not_gt_back Less b e h = cc
not_gt_back Equal b e h = cc
not_gt_back Greater Less e h = refl
not_gt_back Greater Equal e h = cc
not_gt_back Greater Greater e h = cc

-- the greater is one of the two
pub larger_cases : {C : Type 0} (R : C → C → Ordering) (x y : Option (Entry C)) → (larger R x y ≡ x) ⊎ (larger R x y ≡ y)
larger_cases R None y = inr refl
larger_cases R (Some x) None = inl refl
larger_cases R (Some x) (Some y) =
    elim (is_gt (entry_cmp R x y)) as (λ b. (cond b (Some x) (Some y) ≡ Some x) ⊎ (cond b (Some x) (Some y) ≡ Some y)) [ true ↦ inl refl | false ↦ inr refl ]

pub larger-None : {C : Type 0} (R : C → C → Ordering) (x : Option (Entry C)) → larger R x None ≡ x
larger-None R None = refl
larger-None R (Some x) = refl

module _ {C : Type 0} (R : C → C → Ordering) (o : IsTotalOrder R) where
  pub entry_cmp_total : IsTotalOrder (entry_cmp R)
  entry_cmp_total = then_total (on_total (λ (x : Entry C). x.version) version_cmp_total) (on_total (λ (x : Entry C). x.content) o)

  pub below_refl : (x : Option (Entry C)) → IsBelow R x x
  below_refl None = tt
  below_refl (Some x) = ap is_gt (tied_itself entry_cmp_total x)

  pub below_trans : (x y z : Option (Entry C)) → IsBelow R x y → IsBelow R y z → IsBelow R x z
  below_trans None y z h k = tt
  below_trans (Some x) None z h k = absurd h
  below_trans (Some x) (Some y) None h k = absurd k
  below_trans (Some x) (Some y) (Some z) h k = upto entry_cmp_total x y z h k

  pub larger-left : (x y : Option (Entry C)) → IsBelow R x (larger R x y)
  larger-left None y = tt
  larger-left (Some x) None = below_refl (Some x)
  larger-left (Some x) (Some y) =
      elim (is_gt (entry_cmp R x y)) as (λ b. is_gt (entry_cmp R x y) ≡ b → IsBelow R (Some x) (cond b (Some x) (Some y))) [
        | true ↦ λ e. below_refl (Some x)
        | false ↦ λ e. e
      ] refl

  pub larger-right : (x y : Option (Entry C)) → IsBelow R y (larger R x y)
  larger-right None y = below_refl y
  larger-right (Some x) None = tt
  larger-right (Some x) (Some y) =
      elim (is_gt (entry_cmp R x y)) as (λ b. is_gt (entry_cmp R x y) ≡ b → IsBelow R (Some y) (cond b (Some x) (Some y))) [
        | true ↦ λ e. not_gt_back _ _ (entry_cmp_total.antisymm x y) e
        | false ↦ λ e. below_refl (Some y)
      ] refl

  pub larger-least : (x y z : Option (Entry C)) → IsBelow R x z → IsBelow R y z → IsBelow R (larger R x y) z
  larger-least None y z h k = k
  larger-least (Some x) None z h k = h
  larger-least (Some x) (Some y) z h k =
      elim (is_gt (entry_cmp R x y)) as (λ b. IsBelow R (cond b (Some x) (Some y)) z) [ true ↦ h | false ↦ k ]

  pub larger-mono : (x y u v : Option (Entry C)) → IsBelow R x u → IsBelow R y v → IsBelow R (larger R x y) (larger R u v)
  larger-mono x y u v h k =
      larger-least x y _ (below_trans _ _ _ h (larger-left u v)) (below_trans _ _ _ k (larger-right u v))

  module _ (exact : (x y : C) → R x y ≡ Equal → x ≡ y) where
    -- entries that compare as equal are equal
    pub entry_cmp-IsAntisymmetric : (x y : Entry C) → entry_cmp R x y ≡ Equal → x ≡ y
    entry_cmp-IsAntisymmetric x y e =
        let same = both_exact version_cmp R version_cmp-IsAntisymmetric exact x.version y.version x.content y.content e in
        λ i. record { version = same.0 i; content = same.1 i }

    pub below_antisym : (x y : Option (Entry C)) → IsBelow R x y → IsBelow R y x → x ≡ y
    below_antisym None None h k = refl
    below_antisym None (Some y) h k = absurd k
    below_antisym (Some x) None h k = absurd h
    below_antisym (Some x) (Some y) h k =
        ap Some (entry_cmp-IsAntisymmetric x y (tie _ _ (entry_cmp_total.antisymm x y) h k))

    pub larger-absorb : (x y : Option (Entry C)) → IsBelow R y x → larger R x y ≡ x
    larger-absorb x y h = below_antisym _ _ (larger-least x y x (below_refl x) h) (larger-left x y)

    pub larger_comm : (x y : Option (Entry C)) → larger R x y ≡ larger R y x
    larger_comm x y =
        below_antisym _ _
        (larger-least x y _ (larger-right y x) (larger-left y x))
        (larger-least y x _ (larger-right x y) (larger-left x y))

    pub larger_assoc : (x y z : Option (Entry C)) → larger R (larger R x y) z ≡ larger R x (larger R y z)
    larger_assoc x y z =
        let a : IsBelow R y (larger R x (larger R y z)) = below_trans _ _ _ (larger-left y z) (larger-right x (larger R y z)) in
        let b : IsBelow R z (larger R x (larger R y z)) = below_trans _ _ _ (larger-right y z) (larger-right x (larger R y z)) in
        let c : IsBelow R x (larger R (larger R x y) z) = below_trans _ _ _ (larger-left x y) (larger-left (larger R x y) z) in
        let d : IsBelow R y (larger R (larger R x y) z) = below_trans _ _ _ (larger-right x y) (larger-left (larger R x y) z) in
        below_antisym _ _
        (larger-least (larger R x y) z _ (larger-least x y _ (larger-left x (larger R y z)) a) b)
        (larger-least x (larger R y z) _ c (larger-least y z _ d (larger-right (larger R x y) z)))

    pub larger_idem : (x : Option (Entry C)) → larger R x x ≡ x
    larger_idem x = larger-absorb x x (below_refl x)
