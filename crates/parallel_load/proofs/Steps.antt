-- Lists that are made element by element.
use Rattle.std.proofs.Common.{◌++◌, ◌+◌, ◌<◌, ◌∷◌, ◌≡◌}
use Rattle.parallel_load.proofs.Prelude.{[], ap, append-nil, append_assoc, cons_option, Dependency, dependency_of, DepKind, filter_map, filter_map-append, get_or, key_at, length, List, map, map-append, Name, None, Option, other_index, other_indices, other_mains, refl, Some, sym, take, take_more, ℕ, ◌∙◌}

module _ {X Y : Type 0} (f : X → Option Y) (l : List X) (i : ℕ) (d x : X) (within : i < length l) (is : x ≡ get_or l i d) where
  one_more : filter_map f (take i l) ++ cons_option (f x) [] ≡ filter_map f (take (i + 1) l)
  one_more = sym (filter_map-append f (take i l) (x ∷ [])) ∙ ap (filter_map f) (ap (λ y. take i l ++ y ∷ []) is ∙ sym (take_more l i d within))

  -- an element from which one is made
  pub made_one : (now : List Y) (y : Y) → f x ≡ Some y → now ≡ filter_map f (take i l) → now ++ y ∷ [] ≡ filter_map f (take (i + 1) l)
  made_one now y e w = ap (λ ys. ys ++ y ∷ []) w ∙ ap (λ o. filter_map f (take i l) ++ cons_option o []) (sym e) ∙ one_more

  -- an element from which none is made
  pub made_none : (now : List Y) → f x ≡ None → now ≡ filter_map f (take i l) → now ≡ filter_map f (take (i + 1) l)
  made_none now e w = w ∙ sym (append-nil (filter_map f (take i l))) ∙ ap (λ o. filter_map f (take i l) ++ cons_option o []) (sym e) ∙ one_more

-- one more name of a unit's list
module _ (ms : List (Name × ℕ)) (unit : Name) (names : List Name) (i : ℕ) (d x : Name) (within : i < length names) (is : x ≡ get_or names i d) where
  abbrev before : List ℕ
  before = other_indices ms unit (take i names)

  taken : take (i + 1) names ≡ take i names ++ x ∷ []
  taken = take_more names i d within ∙ ap (λ (y : Name). take i names ++ y ∷ []) (sym is)

  indices_more : (y : ℕ) → other_index ms unit x ≡ Some y → other_indices ms unit (take (i + 1) names) ≡ before ++ y ∷ []
  indices_more y e = sym (made_one (other_index ms unit) names i d x within is before y e refl)

  indices_same : other_index ms unit x ≡ None → other_indices ms unit (take (i + 1) names) ≡ before
  indices_same e = sym (made_none (other_index ms unit) names i d x within is before e refl)

  -- it has an index
  pub noted_more : (dep : DepKind) (initial now new : List Dependency) (y : ℕ) → other_index ms unit x ≡ Some y → now ≡ initial ++ map (dependency_of dep) before → new ≡ now ++ dependency_of dep y ∷ []
      → new ≡ initial ++ map (dependency_of dep) (other_indices ms unit (take (i + 1) names))
  noted_more dep initial now new y e w f =
      f ∙ ap (λ (ds : List Dependency). ds ++ dependency_of dep y ∷ []) w
      ∙ append_assoc initial (map (dependency_of dep) before) (dependency_of dep y ∷ [])
      ∙ ap (λ (ds : List Dependency). initial ++ ds) (sym (map-append (dependency_of dep) before (y ∷ [])) ∙ ap (map (dependency_of dep)) (sym (indices_more y e)))

  pub mains_more : (now new : List Name) (y : ℕ) → other_index ms unit x ≡ Some y → now ≡ other_mains ms unit (take i names) → new ≡ now ++ key_at ms y ∷ [] → new ≡ other_mains ms unit (take (i + 1) names)
  mains_more now new y e w f =
      f ∙ ap (λ (ns : List Name). ns ++ key_at ms y ∷ []) w ∙ sym (map-append (key_at ms) before (y ∷ [])) ∙ ap (map (key_at ms)) (sym (indices_more y e))

  -- which is its own
  pub own_more : (y : ℕ) → other_index ms unit x ≡ Some y → key_at ms y ≡ x → other_mains ms unit (take i names) ≡ take i names → other_mains ms unit (take (i + 1) names) ≡ take (i + 1) names
  own_more y e own w =
      ap (map (key_at ms)) (indices_more y e) ∙ map-append (key_at ms) before (y ∷ []) ∙ ap (λ (ns : List Name). ns ++ key_at ms y ∷ []) w
      ∙ ap (λ (n : Name). take i names ++ n ∷ []) own ∙ sym taken

  -- or it has none
  pub noted_same : (dep : DepKind) (initial now : List Dependency) → other_index ms unit x ≡ None → now ≡ initial ++ map (dependency_of dep) before
      → now ≡ initial ++ map (dependency_of dep) (other_indices ms unit (take (i + 1) names))
  noted_same dep initial now e w = w ∙ ap (λ (is : List ℕ). initial ++ map (dependency_of dep) is) (sym (indices_same e))

  pub mains_same : (now : List Name) → other_index ms unit x ≡ None → now ≡ other_mains ms unit (take i names) → now ≡ other_mains ms unit (take (i + 1) names)
  mains_same now e w = w ∙ ap (map (key_at ms)) (sym (indices_same e))
