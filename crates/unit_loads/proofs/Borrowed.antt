-- Borrowed entries have what is visible at their places.
use Rattle.std.proofs.Common.{◌++◌, ◌∷◌, ◌≡◌}
use Rattle.unit_loads.proofs.Prelude.{[], ap, AreDropIns, AreDropInsOf, AreLinkNames, AreLinkNamesFrom, AreLinks, AreLinksFrom, assignments_of, borrowed_are_drop_ins, borrowed_items, borrowed_notes, bytes_at, Contains, content_at, Entry, entry_name, entry_place, file_bytes, file_notes, first_there, Folder, folders, HostViewMap, IsStrictlySortedBy, items_of, later_there, LinkNames, List, map, Name, name_cmp, notes_of, PathParts, refl, shown, Some, subst, sym, view, what_is_in_view_has_a_place, ◌∙◌}
use Rattle.std.specs.FinMap as finmap
use Rattle.unit_loads.specs.declared.units.UnitNote.TheVariants as note

-- each entry is seen at its path
abbrev pub AreHeld : HostViewMap → List (PathParts × Entry) → Type 0
AreHeld s ps = (p : PathParts × Entry) → Contains ps p → finmap.get (view s) p.0 ≡ Some p.1

-- what an entry shows is what is visible at its place
shown_there : (s : HostViewMap) (p : PathParts × Entry) → finmap.get (view s) p.0 ≡ Some p.1 → shown p.1 ≡ content_at s (entry_place s p)
shown_there s p held = sym (what_is_in_view_has_a_place s p.0 p.1 held)

pub items_borrowed : (s : HostViewMap) (ps : List (PathParts × Entry)) → AreHeld s ps → borrowed_items ps ≡ items_of s (map (entry_place s) ps)
items_borrowed s [] held = refl
items_borrowed s (p ∷ ps) held =
    ap (λ o. assignments_of (file_bytes o) ++ borrowed_items ps) (shown_there s p (held p (first_there p ps)))
    ∙ ap (λ xs. assignments_of (bytes_at s (entry_place s p)) ++ xs) (items_borrowed s ps (λ q c. held q (later_there p q ps c)))

pub notes_borrowed : (s : HostViewMap) (ps : List (PathParts × Entry)) → AreHeld s ps → borrowed_notes s ps ≡ file_notes s (map (entry_place s) ps)
notes_borrowed s [] held = refl
notes_borrowed s (p ∷ ps) held =
    ap (λ o. map (note.File (entry_place s p)) (notes_of (file_bytes o)) ++ borrowed_notes s ps) (shown_there s p (held p (first_there p ps)))
    ∙ ap (λ xs. map (note.File (entry_place s p)) (notes_of (bytes_at s (entry_place s p))) ++ xs) (notes_borrowed s ps (λ q c. held q (later_there p q ps c)))

module _ (s : HostViewMap) (names fs : List Name) (listed : fs ≡ folders names) where
  pub drop_ins_borrowed : (ps : List (PathParts × Entry)) → IsStrictlySortedBy name_cmp (map entry_name ps) → AreDropInsOf s fs ps → AreDropIns s names (map (entry_place s) ps)
  drop_ins_borrowed ps ascending exact =
      let own : AreDropInsOf s (folders names) ps = subst (λ (l : List Name). AreDropInsOf s l ps) listed exact in
      let borrowed = borrowed_are_drop_ins s (folders names) ps own in
      record { ascending = borrowed.1 ascending; exact = borrowed.0 }

  links_from : (folder : Folder) (links : List Name) → AreLinksFrom s fs folder links → AreLinks s names folder links
  links_from folder links from =
      let own : AreLinksFrom s (folders names) folder links = subst (λ (l : List Name). AreLinksFrom s l folder links) listed from in
      record { ascending = own.ascending; exact = own.exact }

  pub link_names_from : (links : LinkNames) → AreLinkNamesFrom s fs links → AreLinkNames s names links
  link_names_from links from = record { wanted_are = links_from _ links.wanted from.wanted_are; required_are = links_from _ links.required from.required_are }
