-- If names are aliases of the same units, what is seen in a unit's footprint determines the unit.
use Rattle.std.proofs.Common.{◌++◌, ◌∷◌, ◌≡◌, ◌⊎◌}
use Rattle.unit_loads.specs.Prelude.{ap, AreForOne, content_at, EntryMap, File, fragments_are_own, host_view_of, HostViewMap, inl, inr, is_some, IsAmong, IsAmong-append_left, IsAmong-append_right, IsOwnFileOf, IsOwnPath, leads_and_choice_decide, leads_decide_mains, List, listed, main, mains_decide, Name, None, Option, own_paths_decide, PathParts, PlaceParts, places_decide_views, Profile, refl, Resolution, resolution, SameLeads, Some, subst, sym, template_of, Viewer, with_template, ℕ, ◌∙◌}
use Rattle.unit_loads.specs.{declared.units.Unit.{Unit as LoadedUnit}, Elsewhere.{unit_folders}, ElsewhereLaws.{all_same, chosen, same_content}, Footprints.{AgreeIn, footprint, StartsIn, StartsIn.{alone, within}, StoresAgreeIn}, Units.{IsStatus, IsUnit}}

-- Views for one host with the same aliases that show the same in a unit's footprint have the same unit.
abbrev pub FootprintsDecide : Type 0
FootprintsDecide =
    (s t : HostViewMap) → AreForOne s t → (name : Name) (unit : LoadedUnit) → SameLeads s t → AgreeIn s t (footprint name unit.names)
    → IsUnit s name unit → IsUnit t name unit

-- Stores that show a host the same in a unit's footprint have the same unit for it, if it sees the same aliases.
abbrev pub StoreFootprintsDecide : Type 0
StoreFootprintsDecide =
    (s t : EntryMap) (viewer : Viewer) (name : Name) (unit : LoadedUnit) → SameLeads (host_view_of s viewer) (host_view_of t viewer)
    → StoresAgreeIn s t viewer (footprint name unit.names) → IsUnit (host_view_of s viewer) name unit
    → IsUnit (host_view_of t viewer) name unit

-- stores that show a host the same at places show it the same at the paths
abbrev pub AgreeViewed : Type 0
AgreeViewed =
    (s t : EntryMap) (viewer : Viewer) (parts : List (List ℕ)) → StoresAgreeIn s t viewer parts
    → AgreeIn (host_view_of s viewer) (host_view_of t viewer) parts

-- a path of the name or of its template begins with a component of the footprint
own_among : (n o : Name) → (o ≡ n) ⊎ (template_of n ≡ Some o) → IsAmong o (with_template n)
own_among n o (inl e) = inl (sym e)
own_among n o (inr e) = inr (subst (λ (x : Option Name). IsAmong o (listed x)) (sym e) (inl refl))

own_starts : (n : Name) (p : PathParts) (more : List (List ℕ)) → IsOwnPath n p → StartsIn (with_template n ++ more) p
own_starts n p more o =
    alone o.no_folder
    (IsAmong-append_left p.name (with_template n) more
    (subst (λ (x : List ℕ). IsAmong x (with_template n)) (sym o.name_is) (own_among n o.owner o.owns)))

file_shown : (s t : HostViewMap) → AreForOne s t → (n : Name) (names : List Name) → AgreeIn s t (footprint n names) → (p : PlaceParts)
    → IsOwnFileOf s n p → content_at s p ≡ content_at t p
file_shown s t one n names agree p f =
    ap (content_at s) (sym f.place_is)
    ∙ same_content s t one f.path (File (f.first ∷ f.rest)) f.shows (agree f.path (own_starts n f.path (unit_folders names) f.own))
    ∙ ap (content_at t) f.place_is

pub footprints_decide : FootprintsDecide
footprints_decide s t one name unit leads agree u =
    let mains : (n : Name) → main s n ≡ main t n = leads_decide_mains s t leads in
    let chosen_same = own_paths_decide s t one name (λ p o. agree p (own_starts name p (unit_folders unit.names) o)) in
    let resolved : resolution s name ≡ resolution t name = leads_and_choice_decide s t leads name u.main_is chosen_same in
    record {
      main_is = sym (mains name) ∙ u.main_is;
      name_is = u.name_is;
      names_are = mains_decide s t mains name unit.names u.names_are;
      status_is =
          subst (λ (by : Profile). IsStatus by name (resolution t name).choice unit.status) one.1
          (subst (λ (r : Resolution). IsStatus s.profile name r.choice unit.status) resolved u.status_is);
      has =
          all_same s t one unit
          (λ p h. agree p (within (IsAmong-append_right p.folder (with_template name) (unit_folders unit.names) h)))
          unit.status
          (λ fragment e. file_shown s t one name unit.names agree fragment
          (fragments_are_own s name fragment u.main_is (chosen s.profile name (resolution s name).choice unit.status fragment u.status_is e)))
          u.has;
    }

-- ---- stores

-- two stores are viewed by one
pub one_host : (s t : EntryMap) (viewer : Viewer) → AreForOne (host_view_of s viewer) (host_view_of t viewer)
one_host s t viewer = by viewer.host
  where
    by : (host : Option (List ℕ))
        → AreForOne (host_view_of s (record viewer { host = host })) (host_view_of t (record viewer { host = host }))
    by None = (refl, refl)
    by (Some h) = (refl, refl)

same_start : (parts : List (List ℕ)) (p q : PathParts) → q.folder ≡ p.folder → q.name ≡ p.name → StartsIn parts p → StartsIn parts q
same_start parts p q folder name (alone bare among) = alone (folder ∙ bare) (subst (λ (x : List ℕ). IsAmong x parts) (sym name) among)
same_start parts p q folder name (within among) = within (subst (λ (x : List ℕ). IsAmong x parts) (sym folder) among)

pub agree_viewed : AgreeViewed
agree_viewed s t viewer parts agree p starts =
    places_decide_views s t viewer p
    (λ place level folder name. agree place (same_start parts p place.path folder name starts) (ap is_some level))

pub store_footprints_decide : StoreFootprintsDecide
store_footprints_decide s t viewer name unit leads agree u =
    footprints_decide (host_view_of s viewer) (host_view_of t viewer) (one_host s t viewer) name unit leads
    (agree_viewed s t viewer (footprint name unit.names) agree) u
