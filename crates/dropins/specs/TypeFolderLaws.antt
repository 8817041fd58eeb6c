-- Laws of drop-ins in folders of types: they count last, and where none shows anything the folders of names decide alone.
use Rattle.std.proofs.Common.{◌++◌, ◌↔◌, ◌∷◌, ◌≡◌, ◌⊎◌}
use Rattle.dropins.specs.Prelude.{[], All, ap, append_cancel_right, codes, Contains, contains_from_among, HostViewMap, inl, inr, IsAmong, IsName, Kind, List, Name, None, none-some, option_and_then, PathParts, same_Some, slice_get, Some, subst, suc, sym, viewed_at, word, zero, ℕ, ◌∙◌}
use Rattle.dropins.specs.{declared.precedence.Search.TheVariants.{DropIns}, FolderLaws.{folders_are_names}, FolderLists.{folders, types_of}, OverLaws.{NoneStands, over_is_either, over_of_names, over_once}, Taken.{as_found, Candidate, Candidate.{At, Mask}, IsDropIn, IsTaken, name_dirs, Stands, type_dirs}, TypeLaws.{among_made, folders_keep_types, no_name_has_a_types_folder, types_are_kinds}}

-- the folder of a kind's drop-ins, as service.d
abbrev pub kind_dir : Kind → List ℕ
kind_dir k = word k ++ codes ".d"

-- What is taken in the folders of names is a drop-in, at whichever level: nothing in a type's folder hides it, not even a mask.
abbrev pub NamesGoFirst : Type 0
NamesGoFirst = (s : HostViewMap) (ns : List Name) (p : PathParts) → IsTaken s DropIns (name_dirs (folders ns)) (At p) p → IsDropIn s ns p

-- Where a drop-in is in the folder of a kind, one of the names is of this type, and nothing of its file name stands in a folder of a name.
abbrev pub TypesComeLast : Type 0
TypesComeLast = (s : HostViewMap) (ns : List Name) (k : Kind) (p : PathParts) → All IsName ns → p.folder ≡ kind_dir k → IsDropIn s ns p → Contains (types_of ns) (word k) × NoneStands s DropIns (name_dirs (folders ns)) p.name

-- Where a mask is taken in the folders of names, there is no drop-in of its file name, whatever a type's folder has for it.
abbrev pub MasksHideTypes : Type 0
MasksHideTypes = (s : HostViewMap) (ns : List Name) (p q : PathParts) → IsTaken s DropIns (name_dirs (folders ns)) Mask p → p.name ≡ q.name → IsDropIn s ns q → ⊥

-- Where no folder of a type shows anything, the drop-ins are just what is taken in the folders of names.
abbrev pub NamesAloneWithoutTypes : Type 0
NamesAloneWithoutTypes = (s : HostViewMap) (ns : List Name) → All IsName ns → ((k : Kind) (q : PathParts) → q.folder ≡ kind_dir k → viewed_at s q ≡ None)
    → (p : PathParts) → IsDropIn s ns p ↔ IsTaken s DropIns (name_dirs (folders ns)) (At p) p

pub names_go_first : NamesGoFirst
names_go_first s ns p a = over_of_names s DropIns (name_dirs (folders ns)) (type_dirs (folders ns)) (At p) p a

-- what stands at a place of a list is in it
placed_there : (ds : List (List ℕ)) (i : ℕ) (d : List ℕ) → slice_get ds i ≡ Some d → IsAmong d ds
placed_there [] i d h = cc (h)
placed_there (x ∷ xs) zero d h = inl (same_Some _ _ h)
placed_there (x ∷ xs) (suc i) d h = inr (placed_there xs i d h)

pub types_come_last : TypesComeLast
types_come_last s ns k p a f d = by (over_is_either s DropIns (name_dirs (folders ns)) (type_dirs (folders ns)) (At p) p d)
  where
    own : IsAmong p.folder (type_dirs (folders ns)) → Contains (types_of ns) (word k)
    own h =
        let t = among_made (λ t. t ++ codes ".d") (kind_dir k) (types_of (folders ns)) (subst (λ w. IsAmong w (type_dirs (folders ns))) f h) in
        let same : t.0 ≡ word k = append_cancel_right t.0 (word k) (codes ".d") t.1.1 in
        contains_from_among (word k) (types_of ns) (subst (IsAmong (word k)) (folders_keep_types ns a) (subst (λ w. IsAmong w (types_of (folders ns))) same t.1.0))

    by : IsTaken s DropIns (name_dirs (folders ns)) (At p) p
        ⊎ (IsTaken s DropIns (type_dirs (folders ns)) (At p) p × NoneStands s DropIns (name_dirs (folders ns)) p.name)
        → Contains (types_of ns) (word k) × NoneStands s DropIns (name_dirs (folders ns)) p.name
    by (inl h) = absurd (no_name_has_a_types_folder ns k a (contains_from_among (kind_dir k) (name_dirs (folders ns)) (subst (λ w. IsAmong w (name_dirs (folders ns))) f (placed_there (name_dirs (folders ns)) h.place p.folder h.stands.folder_is))))
    by (inr h) = (own (placed_there (type_dirs (folders ns)) h.0.place p.folder h.0.stands.folder_is), h.1)

pub masks_hide_types : MasksHideTypes
masks_hide_types s ns p q a n d =
    cc ((over_once s DropIns (name_dirs (folders ns)) (type_dirs (folders ns)) Mask (At q) p q (over_of_names s DropIns (name_dirs (folders ns)) (type_dirs (folders ns)) Mask p a) d n).1)

-- nothing stands in the folders of types
module _ (s : HostViewMap) (ns : List Name) (a : All IsName ns)
    (none : (k : Kind) (q : PathParts) → q.folder ≡ kind_dir k → viewed_at s q ≡ None) where
  nowhere : (c : Candidate) (p : PathParts) (i : ℕ) → Stands s DropIns (type_dirs (folders ns)) c p i → ⊥
  nowhere c p i st =
      let t = among_made (λ t. t ++ codes ".d") p.folder (types_of (folders ns)) (placed_there (type_dirs (folders ns)) i p.folder st.folder_is) in
      let k = types_are_kinds (folders ns) t.0 (folders_are_names ns a) (contains_from_among t.0 (types_of (folders ns)) t.1.0) in
      none-some _ (ap (option_and_then (as_found DropIns p)) (sym (none k.0 p (sym t.1.1 ∙ ap (λ w. w ++ codes ".d") k.1))) ∙ st.says)

pub names_alone_without_types : NamesAloneWithoutTypes
names_alone_without_types s ns a none p = (λ d. by (over_is_either s DropIns (name_dirs (folders ns)) (type_dirs (folders ns)) (At p) p d), names_go_first s ns p)
  where
    by : IsTaken s DropIns (name_dirs (folders ns)) (At p) p
        ⊎ (IsTaken s DropIns (type_dirs (folders ns)) (At p) p × NoneStands s DropIns (name_dirs (folders ns)) p.name)
        → IsTaken s DropIns (name_dirs (folders ns)) (At p) p
    by (inl h) = h
    by (inr h) = absurd (nowhere s ns a none (At p) p h.0.place h.0.stands)
