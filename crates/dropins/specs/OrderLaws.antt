-- Laws of drop-ins: their order is that of their file names, whatever the folders, and each is a file.
use Rattle.std.proofs.Common.{◌↔◌, ◌∷◌, ◌≡◌}
use Rattle.dropins.specs.Prelude.{[], among_from_contains, ap, Bool, cond, Contains, contains_from_among, Content, content_at, content_viewed, false, File, Gone, HostViewMap, IsStrictlySortedBy, IsTrue, Link, List, map, Name, name_cmp, nat_list_cmp_total, None, one_ascending, Option, option_and_then, PathParts, PlaceParts, refl, Some, sym, true, viewed_at, ℕ, ◌∙◌}
use Rattle.dropins.specs.{FolderLists.{folders}, Taken.{Candidate.{At, Mask}, content_as_drop_in, file_name, is_conf, is_null, IsDropInAt, IsDropInOf}}

-- Two lists of places in ascending order of file names that have the same places are equal.
abbrev pub OneOrder : Type 0
OneOrder = (ps qs : List PlaceParts) → IsStrictlySortedBy name_cmp (map file_name ps) → IsStrictlySortedBy name_cmp (map file_name qs) → ((p : PlaceParts) → Contains ps p ↔ Contains qs p) → ps ≡ qs

-- The file name of a drop-in ends in `.conf`, and a file that isn't empty is visible at its place.
abbrev pub DropInsAreFiles : Type 0
DropInsAreFiles = (s : HostViewMap) (ns : List Name) (p : PlaceParts) → IsDropInAt s ns p → IsTrue (is_conf (file_name p)) × ((b : ℕ) × (bs : List ℕ) × (content_at s p ≡ Some (File (b ∷ bs))))

pub one_order : OneOrder
one_order ps qs a b same = one_ascending file_name name_cmp nat_list_cmp_total ps qs a b (λ p. (λ h. among_from_contains p qs ((same p).0 (contains_from_among p ps h)), λ h. among_from_contains p ps ((same p).1 (contains_from_among p qs h))))

file_there : (p : PathParts) (t : Bool) (o : Option Content)
    → option_and_then (λ c. cond t (content_as_drop_in p c) None) o ≡ Some (At p)
    → (t ≡ true) × ((b : ℕ) × (bs : List ℕ) × (o ≡ Some (File (b ∷ bs))))
file_there p t None h = cc (h)
file_there p false (Some c) h = cc (h)
file_there p true (Some Gone) h = cc (h)
file_there p true (Some (Link target)) h = absurd (by (is_null target) h)
  where
    by : (n : Bool) → cond n (Some Mask) None ≡ Some (At p) → ⊥
    by true e = cc (e)
    by false e = cc (e)
file_there p true (Some (File [])) h = cc (h)
file_there p true (Some (File (b ∷ bs))) h = (refl, (b, bs, refl))

-- The same for the path at which it is seen.
pub drop_in_paths_are_files : (s : HostViewMap) (fs : List Name) (p : PathParts) → IsDropInOf s fs p
    → (is_conf p.name ≡ true) × ((b : ℕ) × (bs : List ℕ) × (viewed_at s p ≡ Some (File (b ∷ bs))))
drop_in_paths_are_files s fs p d = file_there p (is_conf p.name) (viewed_at s p) d.stands.says

pub drop_ins_are_files : DropInsAreFiles
drop_ins_are_files s ns place (p, is, d) =
    let file = drop_in_paths_are_files s (folders ns) p d in (
      ap (λ (q : PlaceParts). is_conf (file_name q)) (sym is) ∙ file.0,
      (file.1.0, file.1.1, ap (content_at s) (sym is) ∙ content_viewed s p (File (file.1.0 ∷ file.1.1)) file.1.2),
    )
