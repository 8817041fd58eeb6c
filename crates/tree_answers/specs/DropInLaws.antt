-- Laws of drop-ins and links that agree by file name and content: a unit's drop-ins in one view have like ones in the other, in
-- the same order, and its links give the same names.
use Rattle.std.proofs.Common.{◌∷◌, ◌≡◌}
use Rattle.tree_answers.specs.Prelude.{[], among_from_contains, among_map, ap, AreDropIns, AreLinks, as_found, At, Contains, contains_from_among, Content, content_at, content_viewed, drop_in_paths_are_files, DropIns, File, file_name, Folder, folders, HasDropIn, HasLink, HostViewMap, inl, inr, IsAmong, IsDropInAt, IsLinked, IsName, IsStrictlySortedBy, Links, List, map, map_among, Name, name_cmp, name_dirs, None, Option, option_and_then, over_once, PlaceParts, ReadsAlike, refl, Some, subst, sym, type_dirs, viewed_at, viewed_place, ℕ, ◌∙◌}

-- ---- drop-ins

-- The drop-ins of one view are drop-ins of the other, by file name and content.
abbrev pub DropInsGoOver : HostViewMap → HostViewMap → List Name → Type 0
DropInsGoOver v w names = (file : List ℕ) (c : Content) → HasDropIn v names file c → HasDropIn w names file c

-- A drop-in in the other view with the file name and the content of this one.
record IsLikeIt (v w : HostViewMap) (names : List Name) (p : PlaceParts) : Type 0 where
  place : PlaceParts
  there : IsDropInAt w names place
  name_is : file_name place ≡ file_name p
  content_is : content_at w place ≡ content_at v p

like_it : (v w : HostViewMap) (names : List Name) → DropInsGoOver v w names → (p : PlaceParts) → IsDropInAt v names p
    → IsLikeIt v w names p
like_it v w names over p (q, is, d) =
    let file = (drop_in_paths_are_files v (folders names) q d).1 in
    let h = over q.name (File (file.0 ∷ file.1)) (record { path = q; name_is = refl; is_drop_in = d; seen = file.2 }) in
    record {
      place = viewed_place w h.path;
      there = (h.path, refl, h.is_drop_in);
      name_is = h.name_is ∙ ap file_name is;
      content_is =
          content_viewed w h.path (File (file.0 ∷ file.1)) h.seen ∙ sym (content_viewed v q (File (file.0 ∷ file.1)) file.2)
          ∙ ap (content_at v) is;
    }

-- A unit has one drop-in of a file name.
pub one_of_name : (w : HostViewMap) (names : List Name) (p r : PlaceParts) → IsDropInAt w names p → IsDropInAt w names r
    → file_name p ≡ file_name r → p ≡ r
one_of_name w names p r (q, is, d) (z, at, e) same =
    let paths =
    (over_once w DropIns (name_dirs (folders names)) (type_dirs (folders names)) (At q) (At z) q z d e
    (ap file_name is ∙ same ∙ sym (ap file_name at))).0 in
    sym is ∙ ap (viewed_place w) paths ∙ at

-- Drop-ins in the other view with the file names and the contents of these, in the same order.
pub record Counterparts (v w : HostViewMap) (names : List Name) (ps : List PlaceParts) : Type 0 where
  pub places : List PlaceParts
  pub files_are : map file_name places ≡ map file_name ps
  pub contents_are : map (content_at w) places ≡ map (content_at v) ps
  pub there : (p : PlaceParts) → IsAmong p places → IsDropInAt w names p

-- what holds of a place and of each of the others
pub of_each : (P : PlaceParts → Type 0) (x : PlaceParts) (xs : List PlaceParts) → P x → ((q : PlaceParts) → IsAmong q xs → P q)
    → (q : PlaceParts) → IsAmong q (x ∷ xs) → P q
of_each P x xs here rest q (inl e) = subst P e here
of_each P x xs here rest q (inr h) = rest q h

pub counterparts : (v w : HostViewMap) (names : List Name) → DropInsGoOver v w names → (ps : List PlaceParts)
    → ((p : PlaceParts) → IsAmong p ps → IsDropInAt v names p) → Counterparts v w names ps
counterparts v w names over [] are =
    record { places = []; files_are = refl; contents_are = refl; there = λ p h. absurd h }
counterparts v w names over (p ∷ ps) are =
    let first = like_it v w names over p (are p (inl refl)) in
    let rest = counterparts v w names over ps (λ q h. are q (inr h)) in
    record {
      places = first.place ∷ rest.places;
      files_are = (λ i. first.name_is i ∷ rest.files_are i);
      contents_are = (λ i. first.content_is i ∷ rest.contents_are i);
      there = of_each (IsDropInAt w names) first.place rest.places first.there rest.there;
    }

-- They are all drop-ins that the unit has in the other view.
module _ (v w : HostViewMap) (names : List Name) (alike : ReadsAlike v w names) (dropins : List PlaceParts)
    (are : AreDropIns v names dropins) (c : Counterparts v w names dropins) where
  all_found : (p : PlaceParts) → IsDropInAt w names p → Contains c.places p
  all_found p d =
      let other = like_it w v names (λ file x. (alike.drop_ins file x).1) p d in
      let listed = among_from_contains other.place dropins ((are.exact other.place).1 other.there) in
      let named = map_among file_name dropins other.place listed in
      let there = subst (IsAmong (file_name other.place)) (sym c.files_are) named in
      let found = among_map file_name c.places (file_name p) (subst (λ f. IsAmong f (map file_name c.places)) other.name_is there) in
      let same = one_of_name w names found.source p (c.there found.source found.there) d found.makes in
      contains_from_among p c.places (subst (λ (q : PlaceParts). IsAmong q c.places) same found.there)

  pub drop_ins_there : AreDropIns w names c.places
  drop_ins_there = record {
    ascending = subst (IsStrictlySortedBy name_cmp) (sym c.files_are) are.ascending;
    exact = λ p. (λ h. c.there p (among_from_contains p c.places h), λ d. all_found p d);
  }

-- ---- links

-- The links of one view are links of the other, by file name and content.
abbrev LinksGoOver : HostViewMap → HostViewMap → List Name → Folder → Type 0
LinksGoOver v w names folder = (file : List ℕ) (c : Content) → HasLink v names folder file c → HasLink w names folder file c

link_there : (v w : HostViewMap) (names : List Name) (folder : Folder) → LinksGoOver v w names folder → (n : Name)
    → IsLinked v names folder n → IsLinked w names folder n
link_there v w names folder over n l = by (viewed_at v l.path) refl l.taken.stands.says
  where
    by : (o : Option Content) → viewed_at v l.path ≡ o → option_and_then (as_found Links l.path) o ≡ Some (At l.path)
        → IsLinked w names folder n
    by None e h = cc (h)
    by (Some c) e h =
        let has : HasLink v names folder n c =
        record { path = l.path; name_is = l.name_is; is_link = (subst IsName (sym l.name_is) l.name, l.taken); seen = e } in
        let k = over n c has in
        record { name = l.name; path = k.path; name_is = k.name_is; taken = k.is_link.1 }

pub links_there : (v w : HostViewMap) (names : List Name) → ReadsAlike v w names → (folder : Folder) (links : List Name)
    → AreLinks v names folder links → AreLinks w names folder links
links_there v w names alike folder links are = record {
  ascending = are.ascending;
  exact = λ n. (
    λ c. link_there v w names folder (λ file x. (alike.links folder file x).0) n ((are.exact n).0 c),
    λ l. (are.exact n).1 (link_there w v names folder (λ file x. (alike.links folder file x).1) n l),
  );
}
