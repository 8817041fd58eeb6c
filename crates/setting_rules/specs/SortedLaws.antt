-- Names that are sorted and deduplicated.
use Rattle.std.proofs.Common.{◌<◌, ◌∷◌, ◌≡◌}
use Rattle.setting_rules.specs.Prelude.{[], among_from_contains, arith, Contains-dedup, Contains-from_dedup, contains_from_among, dedup, eq_by_cmp, eq_by_cmp_equiv, is_equal, IsAmong, IsPermutation, IsSorted, IsStrictlySortedBy, IsStrictlySortedBy-dedup, length, List, list_any, list_any-IsPermutation, Name, name_cmp, name_cmp-IsAntisymmetric, nat_list_cmp_total, one_ascending_list, refl, subst, sym, ◌∙◌}
use Rattle.setting_rules.specs.{Dependencies.{in_byte_order}, OrderLaws.{any-from_IsAmong, any-in_byte_order, IsAmong-from_any, names_ascend}}

-- sorting changes nothing in names that are strictly ascending
ascending_in_order : (names : List Name) → IsStrictlySortedBy name_cmp names → in_byte_order names ≡ names
ascending_in_order names ascending =
    one_ascending_list name_cmp nat_list_cmp_total (in_byte_order names) names (names_ascend names) ascending
    (λ z. (
      λ h. IsAmong-from_any z names (sym (any-in_byte_order z names) ∙ any-from_IsAmong z (in_byte_order names) h),
      λ h. IsAmong-from_any z (in_byte_order names) (any-in_byte_order z names ∙ any-from_IsAmong z names h),
    ))

few_ascend : (names : List Name) → length names < 2 → IsStrictlySortedBy name_cmp names
unfolding IsStrictlySortedBy
few_ascend [] few = tt
few_ascend (n ∷ []) few = (tt, tt)
few_ascend (n ∷ m ∷ names) few = absurd (omega arith)

-- nor in fewer than two names
pub few_in_order : (names : List Name) → length names < 2 → in_byte_order names ≡ names
few_in_order names few = ascending_in_order names (few_ascend names few)

pub sorted_is : (names s d : List Name) → IsPermutation names s → IsSorted name_cmp s → d ≡ dedup (eq_by_cmp name_cmp) s
    → d ≡ in_byte_order names
sorted_is names s d permutation sorted is =
    one_ascending_list name_cmp nat_list_cmp_total d (in_byte_order names)
    (subst (IsStrictlySortedBy name_cmp) (sym is) (IsStrictlySortedBy-dedup nat_list_cmp_total (λ x y. refl) s sorted)) (names_ascend names)
    (λ z. (forward z, back z))
  where
    same : (z : Name) → list_any (eq_by_cmp name_cmp z) s ≡ list_any (eq_by_cmp name_cmp z) (in_byte_order names)
    same z = sym (list_any-IsPermutation (eq_by_cmp name_cmp z) names s permutation) ∙ sym (any-in_byte_order z names)

    forward : (z : Name) → IsAmong z d → IsAmong z (in_byte_order names)
    forward z h =
        let there = among_from_contains z s (Contains-from_dedup (eq_by_cmp name_cmp) s z (contains_from_among z (dedup (eq_by_cmp name_cmp) s) (subst (IsAmong z) is h))) in
        IsAmong-from_any z (in_byte_order names) (sym (same z) ∙ any-from_IsAmong z s there)

    back : (z : Name) → IsAmong z (in_byte_order names) → IsAmong z d
    back z h =
        let there = IsAmong-from_any z s (same z ∙ any-from_IsAmong z (in_byte_order names) h) in
        subst (IsAmong z) (sym is) (among_from_contains z (dedup (eq_by_cmp name_cmp) s) (Contains-dedup (eq_by_cmp_equiv nat_list_cmp_total) (λ x y e. name_cmp-IsAntisymmetric x y (is_equal _ e)) s z (contains_from_among z s there)))
