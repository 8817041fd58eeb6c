-- A list whose elements are changed in place, one after another.
use Rattle.std.proofs.Common.{◌++◌, ◌+◌, ◌<◌, ◌∷◌, ◌≡◌}
use Rattle.setting_rules.specs.SortedLaws.{few_in_order}
use Rattle.manager_additions.specs.{Additions.{counted_for, names_for, with_names}, Prelude.{Before, DependencyList, DepKind, in_byte_order, Name}}
use Rattle.manager_additions.proofs.Prelude.{[], ap, arith, drop, get_or, length, List, map, refl, set, suc, sym, take, zero, ℕ, ◌∙◌}

module _ {X : Type 0} (f : X → X) where
  -- the list after the first of its elements were changed
  abbrev pub changed_to : List X → ℕ → List X
  changed_to xs i = map f (take i xs) ++ drop i xs

  changed_more : (xs : List X) (i : ℕ) (d : X) → i < length xs → set (changed_to xs i) i (f (get_or xs i d)) ≡ changed_to xs (i + 1)
  changed_more [] i d h = absurd (omega arith)
  changed_more (x ∷ xs) zero d h = refl
  changed_more (x ∷ xs) (suc i) d h =
      let one : suc i + 1 ≡ suc (i + 1) = omega arith in
      ap (λ ys. f x ∷ ys) (changed_more xs i d (omega arith)) ∙ ap (changed_to (x ∷ xs)) (sym one)

  changed_at : (xs : List X) (i : ℕ) (d : X) → i < length xs → get_or (changed_to xs i) i d ≡ get_or xs i d
  changed_at [] i d h = absurd (omega arith)
  changed_at (x ∷ xs) zero d h = refl
  changed_at (x ∷ xs) (suc i) d h = changed_at xs i d (omega arith)

  pub changed_step : (xs now : List X) (i : ℕ) (d new : X) → i < length xs → now ≡ changed_to xs i → new ≡ f (get_or now i d)
      → set now i new ≡ changed_to xs (i + 1)
  changed_step xs now i d new h so_far step =
      let there : get_or now i d ≡ get_or xs i d = ap (λ ys. get_or ys i d) so_far ∙ changed_at xs i d h in
      ap (λ ys. set ys i new) so_far ∙ ap (set (changed_to xs i) i) (step ∙ ap f there) ∙ changed_more xs i d h

-- of no names none counts
pub counted_none : (dep : DepKind) → counted_for dep [] ≡ []
counted_none Before = refl
counted_none other = refl

sorted_none : in_byte_order [] ≡ []
sorted_none = few_in_order [] (omega arith)

-- a list without names stays as it is
pub none_stays : (list : DependencyList) (implied : List (DepKind × Name)) (new : List Name) → new ≡ list.names ++ names_for implied list.kind → length new ≡ 0
    → record list { names = new } ≡ with_names implied list
none_stays list implied new added none =
    let empty = no_elements new none in
    let counted : counted_for list.kind (in_byte_order (list.names ++ names_for implied list.kind)) ≡ [] =
    ap (λ (l : List Name). counted_for list.kind (in_byte_order l)) (sym added ∙ empty) ∙ ap (counted_for list.kind) sorted_none ∙ counted_none list.kind
    in ap (λ (l : List Name). record list { names = l }) (empty ∙ sym counted)
  where
    no_elements : (l : List Name) → length l ≡ 0 → l ≡ []
    no_elements [] h = refl
    no_elements (x ∷ l) h = absurd (omega arith)
