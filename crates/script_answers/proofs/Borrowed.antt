-- Entries that are drop-ins are files, and their text is that of what is visible at their places.
use Rattle.std.proofs.Common.{◌++◌, ◌∷◌, ◌≡◌}
use Rattle.script_answers.proofs.Prelude.{[], ap, AreDropInsOf, AreFiles, borrowed_text, cat_text, codes, Contains, content_at, drop_in_paths_are_files, Entry, entry_lines, entry_place, file_bytes, file_lines, first_there, flat_map, folders, HostViewMap, IsFile, later_there, List, map, Name, option_and_then, PathParts, PlaceParts, refl, shown, Some, subst, sym, view, viewed_at, what_is_in_view_has_a_place, ℕ, ◌∙◌}
use Rattle.std.specs.FinMap as finmap

-- what an entry that is seen shows is visible at its path and at its place
shown_there : (s : HostViewMap) (p : PathParts × Entry) → finmap.get (view s) p.0 ≡ Some p.1 → viewed_at s p.0 ≡ shown p.1
shown_there s p h = ap (option_and_then shown) h

pub drop_ins_borrowed : (s : HostViewMap) (ns fs : List Name) (ps qs : List (PathParts × Entry)) → fs ≡ folders ns → AreDropInsOf s fs ps → qs ≡ ps → AreFiles qs
drop_ins_borrowed s ns fs ps qs of ex e p c =
    let there = (ex p).0 (subst (λ rs. Contains rs p) e c) in
    subst IsFile (shown_there s p there.1) (drop_in_paths_are_files s fs p.0 there.0).1

lines_borrowed : (s : HostViewMap) (ps : List (PathParts × Entry)) → ((p : PathParts × Entry) → Contains ps p → finmap.get (view s) p.0 ≡ Some p.1)
    → flat_map (entry_lines s) ps ≡ flat_map (λ place. file_lines place (file_bytes (content_at s place))) (map (entry_place s) ps)
lines_borrowed s [] held = refl
lines_borrowed s (p ∷ ps) held =
    ap (λ o. file_lines (entry_place s p) (file_bytes o) ++ flat_map (entry_lines s) ps) (sym (what_is_in_view_has_a_place s p.0 p.1 (held p (first_there p ps))))
    ∙ ap (λ (l : List ℕ). file_lines (entry_place s p) (file_bytes (content_at s (entry_place s p))) ++ l) (lines_borrowed s ps (λ q c. held q (later_there p q ps c)))

-- the text of borrowed drop-ins is that of their places
pub text_borrowed : (s : HostViewMap) (fs : List Name) (fragment : PlaceParts) (ps : List (PathParts × Entry)) → AreDropInsOf s fs ps → borrowed_text s fragment ps ≡ cat_text s (fragment ∷ map (entry_place s) ps)
text_borrowed s fs fragment ps ex = ap (λ (l : List ℕ). (file_lines fragment (file_bytes (content_at s fragment)) ++ l) ++ codes "end\n") (lines_borrowed s ps (λ p c. ((ex p).0 c).1))
