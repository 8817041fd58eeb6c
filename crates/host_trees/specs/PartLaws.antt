-- Laws of parts: what is passed over in each.
use Rattle.std.proofs.Common.{◌&&◌, ◌↔◌, ◌∷◌, ◌||◌, ◌≡◌, ◌≢◌, ◌⊎◌}
use Rattle.host_trees.specs.{Parts.{counts, counts_as, is_drop_in_folder, is_link_folder, part_alone, part_within}, Prelude.{[], alias_of, At, Bool, Choice, cond, Content, content_says, decided, false, File, Fleet, Gone, has_folder, inl, inr, instance, is_bad_kind, is_conf, is_name, is_null, is_self, is_some, kind, last_component, Link, link_says, List, Mask, Masked, Name, None, not, PathParts, PlaceParts, refl, shape, shapes_agree, Some, sym, true, within, ℕ, ◌∙◌}}
use Rattle.host_trees.specs.declared.parts.Part.{TheVariants.{DropIn, OfUnit, Other, UnitLink}}

-- Whether a content counts under a unit's own name depends neither on the name that is looked for nor on the place.
abbrev pub OwnNamesDecide : Type 0
OwnNamesDecide = (n own : Name) (place : PlaceParts) (p : PathParts) (c : Content)
    → is_some (content_says n own place c) ≡ counts_as (OfUnit own) p c

-- Under a unit's own name a file counts, and a link unless it leads to that name itself or to its template.
abbrev pub LinksToThemselvesArePassedOver : Type 0
LinksToThemselvesArePassedOver = (own : Name) (p : PathParts) (target : List ℕ)
    → counts_as (OfUnit own) p (Link target)
    ≡ (is_null target || not (is_name (last_component target) && is_self own (last_component target)))

-- Files count in each part but among links, and links in each but under their own name and among drop-ins.
abbrev pub FilesCount : Type 0
FilesCount = (own : Name) (p : PathParts) (bytes : List ℕ)
    → (counts_as (OfUnit own) p (File bytes) ≡ true) × (counts_as DropIn p (File bytes) ≡ true)
    × (counts_as UnitLink p (File bytes) ≡ false) × (counts_as Other p (File bytes) ≡ true)

abbrev pub LinksCount : Type 0
LinksCount = (p : PathParts) (target : List ℕ)
    → (counts_as DropIn p (Link target) ≡ is_null target) × (counts_as UnitLink p (Link target) ≡ true)
    × (counts_as Other p (Link target) ≡ true)

-- ---- links under a unit's own name

passed : (a b c d : Bool) (x : Choice) → is_some (decided a b c d x) ≡ not (a && b)
passed true true c d x = refl
passed true false true d x = refl
passed true false false true x = refl
passed true false false false x = refl
passed false b c d x = refl

-- what a link says of a name is decided by its own name alone
pub link_passed : (n own : Name) (t : List ℕ) → is_some (link_says n own t) ≡ not (is_name t && is_self own t)
link_passed n own t =
    passed (is_name t) (is_self own t) (is_bad_kind (kind own) (kind t)) (shapes_agree (shape own) (instance own) (shape t) (instance t))
    (alias_of (shape n) n (shape t) t)

link_counts : (n own : Name) (place : PlaceParts) (target : List ℕ)
    → is_some (content_says n own place (Link target))
    ≡ (is_null target || not (is_name (last_component target) && is_self own (last_component target)))
link_counts n own place target = by (is_null target)
  where
    by : (b : Bool) → is_some (cond b (Some Masked) (link_says n own (last_component target)))
        ≡ (b || not (is_name (last_component target) && is_self own (last_component target)))
    by true = refl
    by false = link_passed n own (last_component target)

pub links_to_themselves_are_passed_over : LinksToThemselvesArePassedOver
links_to_themselves_are_passed_over own p target = link_counts own own (within Fleet p) target

pub own_names_decide : OwnNamesDecide
own_names_decide n own place p Gone = refl
own_names_decide n own place p (File []) = refl
own_names_decide n own place p (File (b ∷ bs)) = refl
own_names_decide n own place p (Link target) = link_counts n own place target ∙ sym (link_counts own own (within Fleet p) target)

pub files_count : FilesCount
files_count own p [] = (refl, refl, refl, refl)
files_count own p (b ∷ bs) = (refl, refl, refl, refl)

pub links_count : LinksCount
links_count p target = (among_drop_ins (is_null target), among_links (is_null target), refl)
  where
    among_drop_ins : (b : Bool) → is_some (cond b (Some Mask) None) ≡ b
    among_drop_ins true = refl
    among_drop_ins false = refl

    among_links : (b : Bool) → is_some (cond b (Some Mask) (Some (At p))) ≡ true
    among_links true = refl
    among_links false = refl

-- ---- at paths

-- What a content is where it is passed over at a path: under a unit's own name a link to itself, among drop-ins a link to
-- anything but /dev/null, among links a file.
pub record IsLinkToItself (p : PathParts) (c : Content) : Type 0 where
  pub alone : has_folder p ≡ false
  pub unit : is_name p.name ≡ true
  pub target : List ℕ
  pub link : c ≡ Link target
  pub kept : is_null target ≡ false
  pub name : is_name (last_component target) ≡ true
  pub itself : is_self p.name (last_component target) ≡ true

pub record IsLinkAmongDropIns (p : PathParts) (c : Content) : Type 0 where
  pub below : has_folder p ≡ true
  pub folder : is_drop_in_folder p.folder ≡ true
  pub conf : is_conf p.name ≡ true
  pub target : List ℕ
  pub link : c ≡ Link target
  pub kept : is_null target ≡ false

pub record IsFileAmongLinks (p : PathParts) (c : Content) : Type 0 where
  pub below : has_folder p ≡ true
  pub other : is_drop_in_folder p.folder ≡ false
  pub folder : is_link_folder p.folder ≡ true
  pub bytes : List ℕ
  pub file : c ≡ File bytes

abbrev pub IsPassedOverAt : PathParts → Content → Type 0
IsPassedOverAt p c = IsLinkToItself p c ⊎ IsLinkAmongDropIns p c ⊎ IsFileAmongLinks p c

-- A visible content doesn't count just where it is one of these.
abbrev pub PassedOverAtPaths : Type 0
PassedOverAtPaths = (p : PathParts) (c : Content) → c ≢ Gone → (counts p c ≡ false) ↔ IsPassedOverAt p c

false_or : (a b : Bool) → (a || b) ≡ false → (a ≡ false) × (b ≡ false)
false_or false b e = (refl, e)
false_or true b e = cc (e)

not_both : (a b : Bool) → not (a && b) ≡ false → (a ≡ true) × (b ≡ true)
not_both true true e = (refl, refl)
not_both true false e = cc (e)
not_both false b e = cc (e)

module _ (p : PathParts) where
  itself_from : has_folder p ≡ false → is_name p.name ≡ true → (c : Content) → c ≢ Gone
      → counts_as (OfUnit p.name) p c ≡ false → IsLinkToItself p c
  itself_from alone unit Gone some e = absurd (some refl)
  itself_from alone unit (File bytes) some e = let wrong = sym (files_count p.name p bytes).0 ∙ e in cc (wrong)
  itself_from alone unit (Link target) some e =
      let parts = false_or _ _ (sym (links_to_themselves_are_passed_over p.name p target) ∙ e) in
      let both = not_both _ _ parts.1 in
      record { alone = alone; unit = unit; target = target; link = refl; kept = parts.0; name = both.0; itself = both.1 }

  drop_in_from : has_folder p ≡ true → is_drop_in_folder p.folder ≡ true → is_conf p.name ≡ true → (c : Content)
      → c ≢ Gone → counts_as DropIn p c ≡ false → IsLinkAmongDropIns p c
  drop_in_from below folder conf Gone some e = absurd (some refl)
  drop_in_from below folder conf (File bytes) some e = let wrong = sym (files_count p.name p bytes).1 ∙ e in cc (wrong)
  drop_in_from below folder conf (Link target) some e =
      record { below = below; folder = folder; conf = conf; target = target; link = refl; kept = sym (links_count p target).0 ∙ e }

  file_from : has_folder p ≡ true → is_drop_in_folder p.folder ≡ false → is_link_folder p.folder ≡ true → (c : Content)
      → c ≢ Gone → counts_as UnitLink p c ≡ false → IsFileAmongLinks p c
  file_from below other folder Gone some e = absurd (some refl)
  file_from below other folder (File bytes) some e = record { below = below; other = other; folder = folder; bytes = bytes; file = refl }
  file_from below other folder (Link target) some e = let wrong = sym (links_count p target).1 ∙ e in cc (wrong)

  module _ (c : Content) (some : c ≢ Gone) where
    alone_from : has_folder p ≡ false → (b : Bool) → is_name p.name ≡ b
        → counts_as (cond b (OfUnit p.name) Other) p c ≡ false → IsPassedOverAt p c
    alone_from alone true unit e = inl (itself_from alone unit c some e)
    alone_from alone false unit e = cc (e)

    among_from : has_folder p ≡ true → (d : Bool) → is_drop_in_folder p.folder ≡ d → (f : Bool) → is_conf p.name ≡ f
        → (l : Bool) → is_link_folder p.folder ≡ l
        → counts_as (cond d (cond f DropIn Other) (cond l UnitLink Other)) p c ≡ false → IsPassedOverAt p c
    among_from below true d true f l k e = inr (inl (drop_in_from below d f c some e))
    among_from below true d false f l k e = cc (e)
    among_from below false d f g true k e = inr (inr (file_from below d k c some e))
    among_from below false d f g false k e = cc (e)

    forth : (b : Bool) → has_folder p ≡ b
        → counts_as (cond b (part_within p.folder p.name) (part_alone p.name)) p c ≡ false → IsPassedOverAt p c
    forth true below e = among_from below (is_drop_in_folder p.folder) refl (is_conf p.name) refl (is_link_folder p.folder) refl e
    forth false alone e = alone_from alone (is_name p.name) refl e

  back : (c : Content) → IsPassedOverAt p c → counts p c ≡ false
  back c (inl h) =
      (λ i. counts_as (cond (h.alone i) (part_within p.folder p.name) (cond (h.unit i) (OfUnit p.name) Other)) p (h.link i))
      ∙ links_to_themselves_are_passed_over p.name p h.target
      ∙ (λ i. h.kept i || not (h.name i && h.itself i))
  back c (inr (inl h)) =
      (λ i. counts_as (cond (h.below i) (cond (h.folder i) (cond (h.conf i) DropIn Other) (cond (is_link_folder p.folder) UnitLink Other)) (part_alone p.name)) p (h.link i))
      ∙ (links_count p h.target).0 ∙ h.kept
  back c (inr (inr h)) =
      (λ i. counts_as (cond (h.below i) (cond (h.other i) (cond (is_conf p.name) DropIn Other) (cond (h.folder i) UnitLink Other)) (part_alone p.name)) p (h.file i))

pub passed_over_at_paths : PassedOverAtPaths
passed_over_at_paths p c some = (forth p c some (has_folder p) refl, back p c)
