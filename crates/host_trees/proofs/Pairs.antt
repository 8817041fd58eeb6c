-- The entries of drop-ins and links, by file name and content.
use Rattle.std.proofs.Common.{◌+◌, ◌++◌, ◌<◌, ◌↔◌, ◌∷◌, ◌≡◌}
use Rattle.host_trees.proofs.Prelude.{[], among_from_contains, ap, AreDropInsOf, AreLinksOf, as_found, At, Bool, candidate_at, Contains, contains_from_among, Content, content_cmp, content_cmp-IsAntisymmetric, content_cmp_total, DropIns, Entry, entry_name, EntryMap, eq_by_cmp, Equal, false, File, Folder, get_or, get_or-map, Gone, HasDropInOf, HasLinkOf, host_view_of, HostViewMap, is_eq, is_equal, IsAmong, IsCrossed, IsDropInOf, IsLinkOf, IsStrictlySortedBy, IsTotalOrder, length, Link, Links, List, made_of, made_there, map, map-append, MatchBool, Name, name_cmp, name_cmp-IsAntisymmetric, nat_list_cmp_total, None, not, of_fleet, one_ascending, one_store_tells_all, Option, option_and_then, Ordering, PathParts, ReadsAlike, ReadsAlikeOf, ReadsItsTree, refl, Requires, said, SameDropIns, SameLinks, Search, shown, ShowsTree, Some, subst, sym, take, take_more, tied_itself, true, view, viewed_at, Viewer, Wants, ℕ, ◌∙◌}
use Rattle.std.specs.FinMap as finmap

-- What an entry shows is its content.
pub shown_is : (e : Entry) (c : Content) → shown e ≡ Some c → e.content ≡ c
shown_is e c is = by e.content refl is
  where
    by : (x : Content) → e.content ≡ x → shown (record { version = e.version; content = x }) ≡ Some c → e.content ≡ c
    by Gone at h = cc (h)
    by (Link target) at h = at ∙ cc (h)
    by (File bytes) at h = at ∙ cc (h)

-- Where there is a candidate, something is visible.
pub candidate_seen : (v : HostViewMap) (x : Search) (q p : PathParts) → candidate_at v x q ≡ Some (At p) → (c : Content) × (viewed_at v q ≡ Some c)
candidate_seen v x q p is = by (viewed_at v q) refl is
  where
    by : (o : Option Content) → viewed_at v q ≡ o → option_and_then (as_found x q) o ≡ Some (At p) → (c : Content) × (viewed_at v q ≡ Some c)
    by None at h = cc (h)
    by (Some c) at h = (c, at)

-- At a path of this sort the content with this file name is visible.
pub record HasAt (v : HostViewMap) (P : PathParts → Type 0) (file : List ℕ) (c : Content) : Type 0 where
  pub path : PathParts
  pub name_is : path.name ≡ file
  pub is_one : P path
  pub seen : viewed_at v path ≡ Some c

module _ (v : HostViewMap) (P : PathParts → Type 0) (sees : (q : PathParts) → P q → (c : Content) × (viewed_at v q ≡ Some c)) (ps : List (PathParts × Entry)) (exact : (p : PathParts × Entry) → Contains ps p ↔ (P p.0 × (finmap.get (view v) p.0 ≡ Some p.1))) where
  -- The entry of such a path shows its content.
  entry_shows : (p : PathParts × Entry) → P p.0 → finmap.get (view v) p.0 ≡ Some p.1 → viewed_at v p.0 ≡ Some p.1.content
  entry_shows p is got =
      let seen = sees p.0 is in
      let shows : shown p.1 ≡ Some seen.0 = sym (ap (option_and_then shown) got) ∙ seen.1 in
      seen.1 ∙ sym (ap (λ c. Some c) (shown_is p.1 seen.0 shows))

  said_is : (file : List ℕ) (c : Content) → Contains (map said ps) (file, c) → HasAt v P file c
  said_is file c among =
      let h = made_of said ps (file, c) among in
      let there = (exact h.0).0 h.2 in
      record {
        path = h.0.0;
        name_is = ap (λ (e : List ℕ × Content). e.0) h.1;
        is_one = there.0;
        seen = entry_shows h.0 there.0 there.1 ∙ ap (λ (e : List ℕ × Content). Some e.1) h.1;
      }

  is_said : (file : List ℕ) (c : Content) → HasAt v P file c → Contains (map said ps) (file, c)
  is_said file c h = by (finmap.get (view v) h.path) refl h.seen
    where
      by : (o : Option Entry) → finmap.get (view v) h.path ≡ o → option_and_then shown o ≡ Some c → Contains (map said ps) (file, c)
      by None got e = cc (e)
      by (Some x) got e =
          let same : said (h.path, x) ≡ (file, c) = (λ i. (h.name_is i, shown_is x c e i)) in
          subst (Contains (map said ps)) same (made_there said ps (h.path, x) ((exact (h.path, x)).1 (h.is_one, got)))

  -- Of these entries, the pairs of file name and content are those of such paths.
  pub said_exactly : (file : List ℕ) (c : Content) → IsAmong (file, c) (map said ps) ↔ HasAt v P file c
  said_exactly file c = (
    λ a. said_is file c (contains_from_among (file, c) (map said ps) a),
    λ h. among_from_contains (file, c) (map said ps) (is_said file c h),
  )

files_said : (ps : List (PathParts × Entry)) → map (λ (e : List ℕ × Content). e.0) (map said ps) ≡ map entry_name ps
files_said [] = refl
files_said (p ∷ ps) = ap (λ names. p.0.name ∷ names) (files_said ps)

-- Entries in ascending order of file names, all of which are known, are the same where these are the same.
pub same_where_known : (ps qs : List (PathParts × Entry)) (P Q : List ℕ → Content → Type 0)
    → IsStrictlySortedBy name_cmp (map entry_name ps) → IsStrictlySortedBy name_cmp (map entry_name qs)
    → ((file : List ℕ) (c : Content) → IsAmong (file, c) (map said ps) ↔ P file c)
    → ((file : List ℕ) (c : Content) → IsAmong (file, c) (map said qs) ↔ Q file c)
    → (map said ps ≡ map said qs) ↔ ((file : List ℕ) (c : Content) → P file c ↔ Q file c)
same_where_known ps qs P Q a b left right = (forth, back)
  where
    forth : map said ps ≡ map said qs → (file : List ℕ) (c : Content) → P file c ↔ Q file c
    forth e file c = (
      λ p. (right file c).0 (subst (IsAmong (file, c)) e ((left file c).1 p)),
      λ q. (left file c).0 (subst (IsAmong (file, c)) (sym e) ((right file c).1 q)),
    )

    back : ((file : List ℕ) (c : Content) → P file c ↔ Q file c) → map said ps ≡ map said qs
    back same =
        one_ascending (λ (e : List ℕ × Content). e.0) name_cmp nat_list_cmp_total (map said ps) (map said qs)
        (subst (IsStrictlySortedBy name_cmp) (sym (files_said ps)) a) (subst (IsStrictlySortedBy name_cmp) (sym (files_said qs)) b)
        (λ e. (
          λ h. (right e.0 e.1).1 ((same e.0 e.1).0 ((left e.0 e.1).0 h)),
          λ h. (left e.0 e.1).1 ((same e.0 e.1).1 ((right e.0 e.1).0 h)),
        ))

-- ---- drop-ins and links

drop_in_at : (v : HostViewMap) (fs : List Name) (file : List ℕ) (c : Content) → HasAt v (IsDropInOf v fs) file c ↔ HasDropInOf v fs file c
drop_in_at v fs file c = (
  λ h. record { path = h.path; name_is = h.name_is; is_drop_in = h.is_one; seen = h.seen },
  λ h. record { path = h.path; name_is = h.name_is; is_one = h.is_drop_in; seen = h.seen },
)

link_at : (v : HostViewMap) (fs : List Name) (folder : Folder) (file : List ℕ) (c : Content) → HasAt v (IsLinkOf v fs folder) file c ↔ HasLinkOf v fs folder file c
link_at v fs folder file c = (
  λ h. record { path = h.path; name_is = h.name_is; is_link = h.is_one; seen = h.seen },
  λ h. record { path = h.path; name_is = h.name_is; is_one = h.is_link; seen = h.seen },
)

said_drop_ins : (v : HostViewMap) (fs : List Name) (ps : List (PathParts × Entry)) → AreDropInsOf v fs ps
    → (file : List ℕ) (c : Content) → IsAmong (file, c) (map said ps) ↔ HasDropInOf v fs file c
said_drop_ins v fs ps exact file c =
    let h = said_exactly v (IsDropInOf v fs) (λ q d. candidate_seen v DropIns q q d.stands.says) ps exact file c in
    let k = drop_in_at v fs file c in
    (λ a. k.0 (h.0 a), λ d. h.1 (k.1 d))

said_links : (v : HostViewMap) (fs : List Name) (folder : Folder) (ps : List (PathParts × Entry)) → AreLinksOf v fs folder ps
    → (file : List ℕ) (c : Content) → IsAmong (file, c) (map said ps) ↔ HasLinkOf v fs folder file c
said_links v fs folder ps exact file c =
    let h = said_exactly v (IsLinkOf v fs folder) (λ q l. candidate_seen v Links q q l.1.stands.says) ps exact file c in
    let k = link_at v fs folder file c in
    (λ a. k.0 (h.0 a), λ l. h.1 (k.1 l))

module _ (v w : HostViewMap) (fs : List Name) where
  -- Drop-ins are the same where their entries are, by file name and content; and links.
  pub drop_ins_same : (ps qs : List (PathParts × Entry)) → IsStrictlySortedBy name_cmp (map entry_name ps) → IsStrictlySortedBy name_cmp (map entry_name qs)
      → AreDropInsOf v fs ps → AreDropInsOf w fs qs → (map said ps ≡ map said qs) ↔ SameDropIns v w fs
  drop_ins_same ps qs a b p q = same_where_known ps qs (HasDropInOf v fs) (HasDropInOf w fs) a b (said_drop_ins v fs ps p) (said_drop_ins w fs qs q)

  pub links_same : (folder : Folder) (ps qs : List (PathParts × Entry)) → IsStrictlySortedBy name_cmp (map entry_name ps) → IsStrictlySortedBy name_cmp (map entry_name qs)
      → AreLinksOf v fs folder ps → AreLinksOf w fs folder qs → (map said ps ≡ map said qs) ↔ SameLinks v w fs folder
  links_same folder ps qs a b p q =
      same_where_known ps qs (HasLinkOf v fs folder) (HasLinkOf w fs folder) a b (said_links v fs folder ps p) (said_links w fs folder qs q)

  pub all_same : SameDropIns v w fs → SameLinks v w fs Wants → SameLinks v w fs Requires → ReadsAlikeOf v w fs
  all_same drop_ins wants requires = record { drop_ins = drop_ins; links = λ folder. by folder }
    where
      by : (folder : Folder) → SameLinks v w fs folder
      by Wants = wants
      by Requires = requires

-- A unit is crossed where one store tells so.
pub crossed_by : (s t : EntryMap) (viewer : Viewer) (names : List Name) (b : Bool) → ShowsTree t s viewer.host
    → (b ≡ true) ↔ ReadsAlike (host_view_of s viewer) (host_view_of t (of_fleet viewer.profile)) names → MatchBool (not b) (IsCrossed s viewer names) (ReadsItsTree s viewer names)
crossed_by s t viewer names true shows h = one_store_tells_all s t viewer names shows (h.0 refl)
crossed_by s t viewer names false shows h = λ reads. let wrong = h.1 (reads t shows) in cc (wrong)

-- ---- names and contents

equal_by : {K : Type 0} (R : K → K → Ordering) → IsTotalOrder R → ((x y : K) → R x y ≡ Equal → x ≡ y) → (x y : K) → (eq_by_cmp R x y ≡ true) ↔ (x ≡ y)
equal_by R total exact x y = (λ t. exact x y (is_equal _ t), λ e. ap (λ z. is_eq (R x z)) (sym e) ∙ ap is_eq (tied_itself total x))

pub same_names : (x y : List ℕ) → (eq_by_cmp name_cmp x y ≡ true) ↔ (x ≡ y)
same_names = equal_by name_cmp nat_list_cmp_total name_cmp-IsAntisymmetric

pub same_contents : (x y : Content) → (eq_by_cmp content_cmp x y ≡ true) ↔ (x ≡ y)
same_contents = equal_by content_cmp content_cmp_total content_cmp-IsAntisymmetric

-- ---- walking two lists together

pub mapped_more : {A B : Type 0} (f : A → B) (xs ys : List A) (i : ℕ) (x y : A) → x ≡ get_or xs i x → y ≡ get_or ys i y → i < length xs → i < length ys
    → f x ≡ f y → map f (take i xs) ≡ map f (take i ys) → map f (take (i + 1) xs) ≡ map f (take (i + 1) ys)
mapped_more f xs ys i x y p q lt mt e h =
    ap (map f) (take_more xs i x lt) ∙ map-append f (take i xs) (get_or xs i x ∷ [])
    ∙ (λ j. h j ++ (ap f (sym p) ∙ e ∙ ap f q) j ∷ [])
    ∙ sym (map-append f (take i ys) (get_or ys i y ∷ [])) ∙ sym (ap (map f) (take_more ys i y mt))

pub mapped_at : {A B : Type 0} (f : A → B) (xs ys : List A) (i : ℕ) (x y : A) → x ≡ get_or xs i x → y ≡ get_or ys i y → i < length xs → i < length ys
    → map f xs ≡ map f ys → f x ≡ f y
mapped_at f xs ys i x y p q lt mt e =
    ap f p ∙ sym (get_or-map f xs i x (f x) lt) ∙ ap (λ zs. get_or zs i (f x)) e ∙ get_or-map f ys i y (f x) mt ∙ ap f (sym q)
