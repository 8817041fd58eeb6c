-- The unit at an index of a load, and lists of units that are made name by name.
use Rattle.std.{proofs.Common.{◌++◌, ◌+◌, ◌<◌, ◌∷◌, ◌≡◌}, specs.FinMap.Entries.{is_sorted}}
use Rattle.fleet_answers.proofs.Prelude.{[], ap, append-nil, cons_option, filter_map, filter_map-append, get_or, IsTrue, length, List, LoadMap, Name, name_at, name_cmp, NameLoad, None, Option, Some, subst, sym, take, take_more, unit_at, unit_in, unit_part, ℕ, ◌∙◌}

-- the unit at an index, as code reads it
pub part_at : (load : LoadMap) (es : List (Name × NameLoad)) → es ≡ load.names → IsTrue (is_sorted name_cmp es) → (i : ℕ) (p : Name × NameLoad) → i < length es
    → unit_in load (name_at load i) ≡ unit_part (get_or es i p).1
part_at load es same sorted i p l =
    unit_at load (subst (λ (ns : List (Name × NameLoad)). IsTrue (is_sorted name_cmp ns)) same sorted) i p (subst (λ (ns : List (Name × NameLoad)). i < length ns) same l)
    ∙ ap (λ (ns : List (Name × NameLoad)). unit_part (get_or ns i p).1) (sym same)

module _ {X Y : Type 0} (f : X → Option Y) (l : List X) (i : ℕ) (d x : X) (within : i < length l) (is : x ≡ get_or l i d) where
  one_more : filter_map f (take i l) ++ cons_option (f x) [] ≡ filter_map f (take (i + 1) l)
  one_more = sym (filter_map-append f (take i l) (x ∷ [])) ∙ ap (filter_map f) (ap (λ y. take i l ++ y ∷ []) is ∙ sym (take_more l i d within))

  -- an element from which one is made
  pub made_one : (now : List Y) (y : Y) → f x ≡ Some y → now ≡ filter_map f (take i l) → now ++ y ∷ [] ≡ filter_map f (take (i + 1) l)
  made_one now y e w = ap (λ ys. ys ++ y ∷ []) w ∙ ap (λ o. filter_map f (take i l) ++ cons_option o []) (sym e) ∙ one_more

  -- an element from which none is made
  pub made_none : (now : List Y) → f x ≡ None → now ≡ filter_map f (take i l) → now ≡ filter_map f (take (i + 1) l)
  made_none now e w = w ∙ sym (append-nil (filter_map f (take i l))) ∙ ap (λ o. filter_map f (take i l) ++ cons_option o []) (sym e) ∙ one_more
