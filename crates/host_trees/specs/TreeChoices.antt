-- What is said of a name in a tree: at the two levels of each rank, without a host, what the two levels say for the host.
use Rattle.std.proofs.Common.{◌%◌, ◌+◌, ◌/◌, ◌==◌, ◌≡◌}
use Rattle.host_trees.specs.{Moves.{ChangesFragments, contents_moved, says_its_place}, PartLaws.{own_names_decide}, Parts.{counts, counts_as}, Prelude.{[], ap, arith, Bool, bytes_eq-Decides, Choice, choice, cond, Content, content_at, content_says, content_viewed, EntryMap, false, Fleet, fleets_sights, Host, host_view_of, HostViewMap, is_some, IsName, List, Name, nat_tests, None, of_fleet, of_host, Option, option_and_then, option_map, option_or, or_none, own_choice, own_path, own_place, path_after, path_at, PathParts, PlaceParts, places_are_in_views, refl, says, Scope, scope_at, scope_of, shown, shown_at, Some, sym, template_of, templates_keep_parts, true, unwrap_or, viewed_at, Viewer, within, ℕ, ◌∙◌}, Ranks.{mapped_levels, mapped_or, rank_says, said_at_rank}, Reads.{ShowsTree}, TreeLaws.{fleets_stand, own_stands}, Trees.{counted, fleets_at, own_at, standing, stands_at}}
use Rattle.fragment_choice.specs.declared.choices.Choice.TheVariants.{Fragment, NotFound}
use Rattle.host_trees.specs.declared.parts.Part.TheVariants.{OfUnit, Other}

-- ---- what stands says

-- What stands at a path says what the first of both contents says that says anything, if just those count that do.
module _ (p : PathParts) (S : Content → Option Choice) (said : (c : Content) → counts p c ≡ is_some (S c)) where
  of_both : (a c : Content) (x y : Option Choice) (b d : Bool) → S a ≡ x → S c ≡ y → b ≡ is_some x → d ≡ is_some y
      → option_and_then S (option_or (option_or (cond b (Some a) None) (cond d (Some c) None)) (Some a)) ≡ option_or x y
  of_both a c (Some x) y true d own fleets e g = own
  of_both a c (Some x) y false d own fleets e g = cc (e)
  of_both a c None y true d own fleets e g = cc (e)
  of_both a c None y false true own fleets e g = fleets
  of_both a c None (Some y) false false own fleets e g = cc (g)
  of_both a c None None false false own fleets e g = own

  standing_says : (own fleets : Option Content)
      → option_and_then S (standing p own fleets) ≡ option_or (option_and_then S own) (option_and_then S fleets)
  standing_says None fleets = ap (option_and_then S) (fleets_stand p fleets)
  standing_says (Some a) None = ap (option_and_then S) (own_stands p a) ∙ sym (or_none (S a))
  standing_says (Some a) (Some c) = of_both a c (S a) (S c) (counts p a) (counts p c) refl refl (said a) (said c)

-- The path of one component with a unit's name, at a rank.
abbrev pub unit_path : Name → ℕ → PathParts
unit_path o r = path_at r [] o

-- There a content counts if it says anything of any name.
counts_if_said : (n o : Name) → IsName o → (r : ℕ) (place : PlaceParts) (c : Content)
    → counts (unit_path o r) c ≡ is_some (content_says n o place c)
counts_if_said n o good r place c =
    ap (λ b. counts_as (cond b (OfUnit o) Other) (unit_path o r) c) good ∙ sym (own_names_decide n o place (unit_path o r) c)

-- ---- what is seen at the two levels of a rank

half_of_even : (r : ℕ) → (r + r) / 2 ≡ r
half_of_even r = omega arith

half_of_odd : (r : ℕ) → (r + r + 1) / 2 ≡ r
half_of_odd r = omega arith

pub even_level : (r : ℕ) → ((r + r) % 2 == 0) ≡ true
even_level r = grind (arith, nat_tests)

module _ (s : EntryMap) (viewer : Viewer) (o : Name) (r : ℕ) where
  -- At the first what the host has for itself, if there is a host, and at the second what the fleet has.
  pub own_seen : viewed_at (host_view_of s viewer) (own_path o (r + r)) ≡ own_at s viewer.host (unit_path o r)
  own_seen = by viewer.host
    where
      by : (host : Option (List ℕ)) → viewed_at (host_view_of s (record viewer { host = host })) (own_path o (r + r))
          ≡ own_at s host (unit_path o r)
      by None =
          fleets_sights s viewer.profile (own_path o (r + r))
          ∙ ap (λ b. cond b None (shown_at (scope_of s Fleet) (path_after (own_path o (r + r))))) (even_level r)
      by (Some h) =
          ap (option_and_then shown) (places_are_in_views s (of_host h viewer.profile) (within (Host h) (unit_path o r)) (r + r)
          (ap (λ b. cond b (Some (r + r)) None) ((bytes_eq-Decides h h).1 refl)))

  pub fleets_seen : viewed_at (host_view_of s viewer) (own_path o (r + r + 1)) ≡ fleets_at s (unit_path o r)
  fleets_seen = ap (option_and_then shown) (places_are_in_views s viewer (within Fleet (unit_path o r)) (r + r + 1) refl)

  -- Its places are at the path of this rank.
  abbrev place_at : ℕ → PlaceParts
  place_at level = within (scope_at (host_view_of s viewer) level) (unit_path o r)

  own_place_is : own_place (host_view_of s viewer) o (r + r) ≡ place_at (r + r)
  own_place_is = (λ i. within (scope_at (host_view_of s viewer) (r + r)) (path_at (half_of_even r i) [] o))

  fleets_place_is : own_place (host_view_of s viewer) o (r + r + 1) ≡ place_at (r + r + 1)
  fleets_place_is = (λ i. within (scope_at (host_view_of s viewer) (r + r + 1)) (path_at (half_of_odd r i) [] o))

  said_at_levels : (n : Name) → rank_says (says (host_view_of s viewer) n o) r
      ≡ option_or (option_and_then (content_says n o (place_at (r + r))) (own_at s viewer.host (unit_path o r)))
      (option_and_then (content_says n o (place_at (r + r + 1))) (fleets_at s (unit_path o r)))
  said_at_levels n =
      (λ i. option_or (option_and_then (content_says n o (own_place_is i)) (own_seen i))
      (option_and_then (content_says n o (fleets_place_is i)) (fleets_seen i)))

-- ---- what trees say

fleets_only : (b : Bool) → cond b Fleet Fleet ≡ Fleet
fleets_only true = refl
fleets_only false = refl

module _ (s t : EntryMap) (viewer : Viewer) (shows : ShowsTree t s viewer.host) where
  -- Without a host the levels of a rank say what stands at the fleet's place says.
  tree_says : (n o : Name) (r : ℕ) → rank_says (says (host_view_of t (of_fleet viewer.profile)) n o) r
      ≡ option_and_then (content_says n o (within Fleet (unit_path o r))) (stands_at s viewer.host (unit_path o r))
  tree_says n o r =
      said_at_levels t (of_fleet viewer.profile) o r n
      ∙ (λ i. option_and_then (content_says n o (within (fleets_only ((r + r + 1) % 2 == 0) i) (unit_path o r))) (shows (unit_path o r) i))

  module _ (f : Choice → Choice) (changes : ChangesFragments f)
      (moves : (scope : Scope) (path : PathParts) → f (Fragment (within scope path)) ≡ Fragment (within Fleet path)) where
    -- For the host they say the same, but for the place of a fragment.
    ranks_alike : (n o : Name) → IsName o → (r : ℕ)
        → rank_says (says (host_view_of t (of_fleet viewer.profile)) n o) r ≡ option_map f (rank_says (says (host_view_of s viewer) n o) r)
    ranks_alike n o good r =
        let path : PathParts = unit_path o r in
        let v : HostViewMap = host_view_of s viewer in
        let moved : (level : ℕ) (x : Option Content) → option_map f (option_and_then (content_says n o (place_at s viewer o r level)) x)
        ≡ option_and_then (content_says n o (within Fleet path)) x =
        λ level. contents_moved f changes n o (place_at s viewer o r level) (within Fleet path) (moves (scope_at v level) path) in
        tree_says n o r
        ∙ standing_says path (content_says n o (within Fleet path)) (counts_if_said n o good r (within Fleet path))
        (own_at s viewer.host path) (fleets_at s path)
        ∙ (λ i. option_or (sym (moved (r + r) (own_at s viewer.host path)) i) (sym (moved (r + r + 1) (fleets_at s path)) i))
        ∙ mapped_or f (option_and_then (content_says n o (place_at s viewer o r (r + r))) (own_at s viewer.host path))
        (option_and_then (content_says n o (place_at s viewer o r (r + r + 1))) (fleets_at s path))
        ∙ ap (option_map f) (sym (said_at_levels s viewer o r n))

    own_choices_alike : (n o : Name) → IsName o → own_choice (host_view_of t (of_fleet viewer.profile)) n o
        ≡ option_map f (own_choice (host_view_of s viewer) n o)
    own_choices_alike n o good =
        mapped_levels f (says (host_view_of s viewer) n o) (says (host_view_of t (of_fleet viewer.profile)) n o) (ranks_alike n o good)

    templates_alike : (n : Name) → IsName n → option_and_then (own_choice (host_view_of t (of_fleet viewer.profile)) n) (template_of n)
        ≡ option_map f (option_and_then (own_choice (host_view_of s viewer) n) (template_of n))
    templates_alike n good = by (template_of n) refl
      where
        by : (o : Option Name) → template_of n ≡ o
            → option_and_then (own_choice (host_view_of t (of_fleet viewer.profile)) n) o
            ≡ option_map f (option_and_then (own_choice (host_view_of s viewer) n) o)
        by None e = refl
        by (Some o) e = own_choices_alike n o (templates_keep_parts n o good e).2.name

    unwrapped : (c : Option Choice) → unwrap_or (option_map f c) NotFound ≡ f (unwrap_or c NotFound)
    unwrapped None = sym changes.not_found
    unwrapped (Some c) = refl

    -- So each name is chosen alike.
    pub choices_alike : (n : Name) → IsName n → choice (host_view_of t (of_fleet viewer.profile)) n ≡ f (choice (host_view_of s viewer) n)
    choices_alike n good =
        let v : HostViewMap = host_view_of s viewer in
        (λ i. unwrap_or (option_or (own_choices_alike n n good i) (templates_alike n good i)) NotFound)
        ∙ ap (λ c. unwrap_or c NotFound) (mapped_or f (own_choice v n n) (option_and_then (own_choice v n) (template_of n)))
        ∙ unwrapped (option_or (own_choice v n n) (option_and_then (own_choice v n) (template_of n)))

-- ---- fragments

-- What stands at the path of a place is what the host sees at the place.
abbrev pub ItStands : EntryMap → Viewer → PlaceParts → Type 0
ItStands s viewer p = stands_at s viewer.host p.path ≡ content_at (host_view_of s viewer) p

-- An own content that counts stands, and so does the fleet's that counts where the own one doesn't.
own_counted : (p : PathParts) (a : Content) (fleets : Option Content) → counts p a ≡ true → standing p (Some a) fleets ≡ Some a
own_counted p a fleets it_counts =
    ap (λ b. option_or (option_or (cond b (Some a) None) (counted p fleets)) (option_or (Some a) fleets)) it_counts

fleets_counted : (p : PathParts) (a c : Content) → counts p a ≡ false → counts p c ≡ true → standing p (Some a) (Some c) ≡ Some c
fleets_counted p a c passed it_counts =
    (λ i. option_or (option_or (cond (passed i) (Some a) None) (cond (it_counts i) (Some c) None)) (Some a))

module _ (s : EntryMap) (viewer : Viewer) (n o : Name) (good : IsName o) (r : ℕ) (p : PlaceParts) where
  -- What is seen at a level of the rank stands at the path of its place, if it stands at this path and says that fragment.
  found : (level : ℕ) (c : Content) → own_place (host_view_of s viewer) o level ≡ place_at s viewer o r level
      → viewed_at (host_view_of s viewer) (own_path o level) ≡ Some c → content_says n o (place_at s viewer o r level) c ≡ Some (Fragment p)
      → stands_at s viewer.host (unit_path o r) ≡ Some c → ItStands s viewer p
  found level c place_is seen speaks stands =
      let v : HostViewMap = host_view_of s viewer in
      let same : place_at s viewer o r level ≡ p = says_its_place n o (place_at s viewer o r level) p c speaks in
      ap (λ (q : PlaceParts). stands_at s viewer.host q.path) (sym same)
      ∙ stands
      ∙ sym (content_viewed v (own_path o level) c seen)
      ∙ ap (content_at v) (place_is ∙ same)

  -- Where the second level of the rank says the fragment.
  of_fleets : (c : Content) → fleets_at s (unit_path o r) ≡ Some c
      → content_says n o (place_at s viewer o r (r + r + 1)) c ≡ Some (Fragment p)
      → stands_at s viewer.host (unit_path o r) ≡ Some c → ItStands s viewer p
  of_fleets c is = found (r + r + 1) c (fleets_place_is s viewer o r) (fleets_seen s viewer o r ∙ is)

  counts_there : (place : PlaceParts) (c : Content) (x : Option Choice) → content_says n o place c ≡ x
      → counts (unit_path o r) c ≡ is_some x
  counts_there place c x speaks = counts_if_said n o good r place c ∙ ap is_some speaks

  -- Where the host has something for itself: it says the fragment, or nothing.
  of_own : (a : Content) → own_at s viewer.host (unit_path o r) ≡ Some a → (fleets : Option Content) → fleets_at s (unit_path o r) ≡ fleets
      → (x : Option Choice) → content_says n o (place_at s viewer o r (r + r)) a ≡ x
      → option_or x (option_and_then (content_says n o (place_at s viewer o r (r + r + 1))) fleets) ≡ Some (Fragment p)
      → ItStands s viewer p
  of_own a own fleets is (Some x) speaks e =
      found (r + r) a (own_place_is s viewer o r) (own_seen s viewer o r ∙ own) (speaks ∙ e)
      ((λ i. standing (unit_path o r) (own i) (is i))
      ∙ own_counted (unit_path o r) a fleets (counts_there (place_at s viewer o r (r + r)) a (Some x) speaks))
  of_own a own None is None speaks e = cc (e)
  of_own a own (Some c) is None speaks e =
      of_fleets c is e
      ((λ i. standing (unit_path o r) (own i) (is i))
      ∙ fleets_counted (unit_path o r) a c (counts_there (place_at s viewer o r (r + r)) a None speaks)
      (counts_there (place_at s viewer o r (r + r + 1)) c (Some (Fragment p)) e))

  fragment_of_rank : rank_says (says (host_view_of s viewer) n o) r ≡ Some (Fragment p) → ItStands s viewer p
  fragment_of_rank e = by (own_at s viewer.host (unit_path o r)) refl (fleets_at s (unit_path o r)) refl (sym (said_at_levels s viewer o r n) ∙ e)
    where
      by : (own : Option Content) → own_at s viewer.host (unit_path o r) ≡ own → (fleets : Option Content)
          → fleets_at s (unit_path o r) ≡ fleets
          → option_or (option_and_then (content_says n o (place_at s viewer o r (r + r))) own)
          (option_and_then (content_says n o (place_at s viewer o r (r + r + 1))) fleets) ≡ Some (Fragment p)
          → ItStands s viewer p
      by None own None is e = cc (e)
      by None own (Some c) is e = of_fleets c is e ((λ i. standing (unit_path o r) (own i) (is i)) ∙ fleets_stand (unit_path o r) (Some c))
      by (Some a) own fleets is e = of_own a own fleets is (content_says n o (place_at s viewer o r (r + r)) a) refl e

-- The content of a fragment stands at the path of its place.
pub fragments_stand : (s : EntryMap) (viewer : Viewer) (n : Name) → IsName n → (p : PlaceParts)
    → choice (host_view_of s viewer) n ≡ Fragment p → ItStands s viewer p
fragments_stand s viewer n good p e = by (own_choice (host_view_of s viewer) n n) refl (template_of n) refl e
  where
    said : (o : Name) → IsName o → own_choice (host_view_of s viewer) n o ≡ Some (Fragment p) → ItStands s viewer p
    said o of_name =
        said_at_rank (says (host_view_of s viewer) n o) (Fragment p) (ItStands s viewer p) (λ r. fragment_of_rank s viewer n o of_name r p)

    of_template : (o : Name) → IsName o → (c : Option Choice) → own_choice (host_view_of s viewer) n o ≡ c
        → unwrap_or c NotFound ≡ Fragment p
        → ItStands s viewer p
    of_template o of_name None at e = cc (e)
    of_template o of_name (Some c) at e = said o of_name (at ∙ ap Some e)

    by : (c : Option Choice) → own_choice (host_view_of s viewer) n n ≡ c → (t : Option Name) → template_of n ≡ t
        → unwrap_or (option_or c (option_and_then (own_choice (host_view_of s viewer) n) t)) NotFound ≡ Fragment p
        → ItStands s viewer p
    by (Some c) at t is e = said n good (at ∙ ap Some e)
    by None at None is e = cc (e)
    by None at (Some o) is e = of_template o (templates_keep_parts n o good is).2.name (own_choice (host_view_of s viewer) n o) refl e
