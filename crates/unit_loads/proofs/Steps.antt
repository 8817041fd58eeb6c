-- Lists that are made element by element.
use Rattle.std.proofs.Common.{◌++◌, ◌∷◌, ◌≡◌}
use Rattle.unit_loads.proofs.Prelude.{[], ap, append_assoc, BadName, DepKind, filter, filter-append, filter_map-append, for_unit, is_none, key_for, link_notes, linked_by, List, map, map-append, Name, note_on, sym, ◌∙◌}

-- one more element
module _ {X B : Type 0} (made : List X → List B) (made-append : (xs ys : List X) → made (xs ++ ys) ≡ made xs ++ made ys) where
  pub made_more : (items : List X) (x : X) (was now new : List B) → now ≡ was ++ made items → new ≡ now ++ made (x ∷ []) → new ≡ was ++ made (items ++ x ∷ [])
  made_more items x was now new w n =
      n ∙ ap (λ m. m ++ made (x ∷ [])) w ∙ append_assoc was (made items) (made (x ∷ []))
      ∙ ap (λ m. was ++ m) (sym (made-append items (x ∷ [])))

pub linked_by-append : (unit : Name) (xs ys : List Name) → linked_by unit (xs ++ ys) ≡ linked_by unit xs ++ linked_by unit ys
linked_by-append unit xs ys = filter_map-append (for_unit unit) xs ys

pub link_notes-append : (unit : Name) (dep : DepKind) (xs ys : List Name) → link_notes unit dep (xs ++ ys) ≡ link_notes unit dep xs ++ link_notes unit dep ys
link_notes-append unit dep xs ys =
    ap (map (λ _. note_on (key_for dep) BadName)) (filter-append (λ link. is_none (for_unit unit link)) xs ys)
    ∙ map-append (λ _. note_on (key_for dep) BadName) (filter (λ link. is_none (for_unit unit link)) xs) (filter (λ link. is_none (for_unit unit link)) ys)
