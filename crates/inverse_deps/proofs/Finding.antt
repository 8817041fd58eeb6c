-- What a search among the names of a load finds.
use Rattle.std.proofs.Common.{◌<◌, ◌≡◌}
use Rattle.inverse_deps.proofs.Prelude.{[], ap, at_within, find, find_at, find_gap, get_or, is_sorted, IsAt, IsGap, IsIndexOf, IsTrue, IsUnitIn, key_found, keys_of, length, List, LoadedUnit, LoadMap, Name, name_cmp, name_cmp-IsAntisymmetric, NameLoad, nat_list_cmp_total, none-some, OfAlias, OfUnit, option_and_then, subst, sym, unit_in, unit_part, ℕ, ◌∙◌}

module _ (load : LoadMap) (es : List (Name × NameLoad)) (same : es ≡ load.names) (name : Name) where
  part_at : (at : ℕ) (p : Name × NameLoad) → IsAt name_cmp name es at → unit_in load name ≡ unit_part (get_or es at p).1
  part_at at p a =
      ap (λ ns. option_and_then unit_part (find name_cmp name ns)) (sym same)
      ∙ ap (λ o. option_and_then unit_part o) (find_at name_cmp name es at p a)

  pub found_unit : (at : ℕ) (p : Name × NameLoad) (unit : LoadedUnit) → IsAt name_cmp name es at → (get_or es at p).1 ≡ OfUnit unit → IsIndexOf load name at
  found_unit at p unit a u = record {
    below = (let P : List (Name × NameLoad) → Type 0 = λ ns. at < length ns in subst P same (at_within name_cmp name es at a));
    named = (let P : List (Name × NameLoad) → Type 0 = λ ns. get_or (keys_of ns) at [] ≡ name in
        subst P same (key_found name_cmp name_cmp-IsAntisymmetric name es at [] a));
    unit = (unit, part_at at p a ∙ ap unit_part u);
  }

  pub found_alias : (at : ℕ) (p : Name × NameLoad) (of : Name) → IsAt name_cmp name es at → (get_or es at p).1 ≡ OfAlias of → ¬ IsUnitIn load name
  found_alias at p of a u h = absurd (none-some _ (sym (part_at at p a ∙ ap unit_part u) ∙ h.1))

  pub not_found : (at : ℕ) → IsTrue (is_sorted name_cmp es) → IsGap name_cmp name es at → ¬ IsUnitIn load name
  not_found at s g h =
      absurd (none-some _ (sym (ap (λ ns. option_and_then unit_part (find name_cmp name ns)) (sym same)
      ∙ ap (λ o. option_and_then unit_part o) (find_gap name_cmp name nat_list_cmp_total es at s g)) ∙ h.1))
