-- Laws of fragments: each is a visible file that isn't empty, at a place whose path has one component.
use Rattle.std.proofs.Common.{◌∷◌, ◌≡◌, ◌⊎◌}
use Rattle.fragment_choice.specs.Prelude.{[], ap, Bool, cond, Content, content_at, content_viewed, false, first_said, HostViewMap, inl, inr, Instance, instance, is_name, kind, levels, List, Name, None, Option, option_and_then, option_or, PathParts, PlaceParts, Plain, refl, Shape, shape, Some, sym, Template, template_of, true, unwrap_or, viewed_at, viewed_place, with_instance, ℕ, ◌∙◌}
use Rattle.fragment_choice.specs.{ChoiceLaws.{IsOwnPath}, Choices.{alias_of, alias_to, choice, content_says, is_bad_kind, is_null, is_self, last_component, link_says, own_choice, own_path, own_place, says, shapes_agree}, declared.{choices.Choice.{Choice, TheVariants.{Bad, Fragment, Masked, NotFound}}, resolutions.Resolution.{Resolution}}, ResolutionLaws.{resolution_resolves}, Resolutions.{main, resolution, Resolves, Resolves.{ends_at, goes_on}}}
use Rattle.edit_sums.specs.declared.contents.Content.TheVariants as content
use Rattle.fragment_choice.specs.declared.choices.Cause.TheVariants as cause

-- A file that isn't empty is visible at the place.
abbrev pub IsFileAt : HostViewMap → PlaceParts → Type 0
IsFileAt s p = (b : ℕ) × (bs : List ℕ) × (content_at s p ≡ Some (content.File (b ∷ bs)))

-- The fragment that a name resolves to is such a file.
abbrev pub FragmentsAreFiles : Type 0
FragmentsAreFiles = (s : HostViewMap) (n : Name) (p : PlaceParts) → (resolution s n).choice ≡ Fragment p → IsFileAt s p

-- The path of that fragment has one component.
abbrev pub FragmentsHaveNoFolder : Type 0
FragmentsHaveNoFolder = (s : HostViewMap) (n : Name) (p : PlaceParts) → (resolution s n).choice ≡ Fragment p → p.path.folder ≡ []

-- A file that isn't empty is seen at a path of one component, which has this place.
abbrev pub IsOwnFile : HostViewMap → PlaceParts → Type 0
IsOwnFile s p = (q : PathParts) × (viewed_place s q ≡ p) × (q.folder ≡ []) × (b : ℕ) × (bs : List ℕ) × (viewed_at s q ≡ Some (content.File (b ∷ bs)))

-- The same at an own path of the name or of its template.
pub record IsOwnFileOf (s : HostViewMap) (n : Name) (p : PlaceParts) : Type 0 where
  pub path : PathParts
  pub place_is : viewed_place s path ≡ p
  pub own : IsOwnPath n path
  pub first : ℕ
  pub rest : List ℕ
  pub shows : viewed_at s path ≡ Some (content.File (first ∷ rest))

-- The fragment of a main name is at an own path of the name or of its template.
abbrev pub FragmentsAreOwn : Type 0
FragmentsAreOwn = (s : HostViewMap) (n : Name) (p : PlaceParts) → main s n ≡ n → (resolution s n).choice ≡ Fragment p → IsOwnFileOf s n p

-- Such a file at a path of this name.
record IsFileOf (s : HostViewMap) (o : Name) (p : PlaceParts) : Type 0 where
  path : PathParts
  place_is : viewed_place s path ≡ p
  no_folder : path.folder ≡ []
  name_is : path.name ≡ o
  first : ℕ
  rest : List ℕ
  shows : viewed_at s path ≡ Some (content.File (first ∷ rest))

-- An answer that is no fragment.
abbrev IsOther : Option Choice → PlaceParts → Type 0
IsOther o p = o ≡ Some (Fragment p) → ⊥

alias_other : (o : Option Name) (p : PlaceParts) → IsOther (Some (alias_to o)) p
alias_other None p e = cc (e)
alias_other (Some m) p e = cc (e)

made_other : (x : Shape) (n : Name) (y : Shape) (t : Name) (p : PlaceParts) → IsOther (Some (alias_of x n y t)) p
made_other Plain n y t p e = cc (e)
made_other Template n y t p e = cc (e)
made_other Instance n Plain t p e = cc (e)
made_other Instance n Template t p e = alias_other (with_instance t (instance n)) p e
made_other Instance n Instance t p e = cc (e)

-- No link gives a fragment.
link_other : (n o : Name) (t : List ℕ) (p : PlaceParts) → IsOther (link_says n o t) p
link_other n o t p e = by (is_name t) (is_self o t) (is_bad_kind (kind o) (kind t)) (shapes_agree (shape o) (instance o) (shape t) (instance t)) e
  where
    by : (a b c d : Bool)
        → IsOther
        (cond a (cond b None
        (cond c (Some (Bad cause.Kind))
        (cond d (Some (alias_of (shape n) n (shape t) t)) (Some (Bad cause.Shape)))))
        (Some (Bad cause.Target))) p
    by false b c d e = cc (e)
    by true true c d e = cc (e)
    by true false true d e = cc (e)
    by true false false true e = made_other (shape n) n (shape t) t p e
    by true false false false e = cc (e)

content_file : (n o : Name) (q p : PlaceParts) (c : Content) → content_says n o q c ≡ Some (Fragment p)
    → (b : ℕ) × (bs : List ℕ) × (c ≡ content.File (b ∷ bs)) × (q ≡ p)
content_file n o q p content.Gone e = cc (e)
content_file n o q p (content.File []) e = cc (e)
content_file n o q p (content.File (b ∷ bs)) e = (b, bs, refl, cc)
content_file n o q p (content.Link target) e = absurd (by (is_null target) e)
  where
    by : (b : Bool) → cond b (Some Masked) (link_says n o (last_component target)) ≡ Some (Fragment p) → ⊥
    by true e = cc (e)
    by false e = link_other n o (last_component target) p e

said_file : (s : HostViewMap) (n o : Name) (level : ℕ) (p : PlaceParts) → says s n o level ≡ Some (Fragment p) → IsFileOf s o p
said_file s n o level p e = by (viewed_at s (own_path o level)) refl e
  where
    by : (y : Option Content) → viewed_at s (own_path o level) ≡ y
        → option_and_then (content_says n o (own_place s o level)) y ≡ Some (Fragment p) → IsFileOf s o p
    by None at e = cc (e)
    by (Some c) at e =
        let file = content_file n o (own_place s o level) p c e in
        record {
          path = own_path o level;
          place_is = file.3;
          no_folder = refl;
          name_is = refl;
          first = file.0;
          rest = file.1;
          shows = at ∙ ap Some file.2;
        }

first_file : (s : HostViewMap) (n o : Name) (rs : List ℕ) (p : PlaceParts) → first_said (says s n o) rs ≡ Some (Fragment p) → IsFileOf s o p
first_file s n o [] p e = cc (e)
first_file s n o (r ∷ rs) p e = by (says s n o r) refl (first_file s n o rs p) e
  where
    by : (y : Option Choice) → says s n o r ≡ y → (first_said (says s n o) rs ≡ Some (Fragment p) → IsFileOf s o p)
        → option_or y (first_said (says s n o) rs) ≡ Some (Fragment p) → IsFileOf s o p
    by None at later e = later e
    by (Some c) at later e = said_file s n o r p (at ∙ e)

chosen_file : (s : HostViewMap) (n : Name) (p : PlaceParts) → choice s n ≡ Fragment p → IsOwnFileOf s n p
chosen_file s n p e = by (own_choice s n n) refl (template_of n) refl e
  where
    owned : (o : Name) → (o ≡ n) ⊎ (template_of n ≡ Some o) → IsFileOf s o p → IsOwnFileOf s n p
    owned o owns at = record {
      path = at.path;
      place_is = at.place_is;
      own = record { owner = o; owns = owns; no_folder = at.no_folder; name_is = at.name_is };
      first = at.first;
      rest = at.rest;
      shows = at.shows;
    }

    by : (y : Option Choice) → own_choice s n n ≡ y → (t : Option Name) → template_of n ≡ t
        → unwrap_or (option_or y (option_and_then (own_choice s n) t)) NotFound ≡ Fragment p → IsOwnFileOf s n p
    by (Some c) at t f e = owned n (inl refl) (first_file s n n levels p (at ∙ ap Some e))
    by None at None f e = cc (e)
    by None at (Some o) f e = of_template (own_choice s n o) refl e
      where
        of_template : (z : Option Choice) → own_choice s n o ≡ z → unwrap_or z NotFound ≡ Fragment p → IsOwnFileOf s n p
        of_template None there e = cc (e)
        of_template (Some c) there e = owned o (inr f) (first_file s n o levels p (there ∙ ap Some e))

viewed_file : (s : HostViewMap) (n : Name) (p : PlaceParts) → IsOwnFileOf s n p → IsOwnFile s p
viewed_file s n p at = (at.path, at.place_is, at.own.no_folder, at.first, at.rest, at.shows)

resolved_file : (s : HostViewMap) (n : Name) (r : Resolution) (p : PlaceParts) → Resolves s n r → r.choice ≡ Fragment p → IsOwnFile s p
resolved_file s n r p (ends_at k u short chain ends) e = viewed_file s u p (chosen_file s u p e)
resolved_file s n r p (goes_on u chain) e = cc (e)

resolved_own : (s : HostViewMap) (n : Name) (r : Resolution) (p : PlaceParts) → r.main ≡ n → Resolves s n r → r.choice ≡ Fragment p
    → IsOwnFileOf s n p
resolved_own s n r p own (ends_at k u short chain ends) e = chosen_file s n p (ap (choice s) (sym own) ∙ e)
resolved_own s n r p own (goes_on u chain) e = cc (e)

pub fragments_are_own : FragmentsAreOwn
fragments_are_own s n p own e = resolved_own s n (resolution s n) p own (resolution_resolves s n) e

-- The fragment that a name resolves to is seen at a path.
pub fragments_are_in_view : (s : HostViewMap) (n : Name) (p : PlaceParts) → (resolution s n).choice ≡ Fragment p → IsOwnFile s p
fragments_are_in_view s n p e = resolved_file s n (resolution s n) p (resolution_resolves s n) e

pub fragments_are_files : FragmentsAreFiles
fragments_are_files s n p e =
    let at = fragments_are_in_view s n p e in
    (at.3, at.4, ap (content_at s) (sym at.1) ∙ content_viewed s at.0 (content.File (at.3 ∷ at.4)) at.5)

pub fragments_have_no_folder : FragmentsHaveNoFolder
fragments_have_no_folder s n p e = let at = fragments_are_in_view s n p e in ap (λ (q : PlaceParts). q.path.folder) (sym at.1) ∙ at.2
