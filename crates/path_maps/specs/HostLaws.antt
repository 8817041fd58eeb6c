-- What a host sees, said of places: those that it looks at, at their levels, and no others.
use Rattle.std.proofs.Common.{◌%◌, ◌+◌, ◌/◌, ◌==◌, ◌≡◌, ◌≢◌}
use Rattle.path_maps.specs.Prelude.{ap, arith, Bool, bytes_eq, bytes_eq-Decides, cond, Content, Entry, EntryMap, false, Fleet, Host, level_for, List, nat_tests, None, Option, option_and_then, option_map, path_cmp-IsAntisymmetric, path_cmp_total, PathParts, place_cmp, PlaceParts, refl, same_Some, Scope, scope_bytes, shown, Some, sym, true, Viewer, visible_at, of_fleet, of_host, Profile, ℕ, ◌∙◌}
use Rattle.path_maps.specs.{Folders.{path_at}, HostViewLaws.{get-view}, HostViews.{AreForOne, content_at, held_by, held_by_own, host_view_of, HostViewMap, level_of, Own, own_of, own_scope, scope_at, view, viewed_at, viewed_place, viewer_of}, ScopeLaws.{get-scope_of}, Scopes.{PathMap, scope_of, shown_at, within}, Sights.{path_after}}
use Rattle.std.specs.FinMap as finmap

-- a place with a level is seen at it
abbrev pub PlacesAreInViews : Type 0
PlacesAreInViews = (s : EntryMap) (viewer : Viewer) (place : PlaceParts) (level : ℕ) → level_for viewer place ≡ Some level → finmap.get (view (host_view_of s viewer)) (path_at level place.path.folder place.path.name) ≡ finmap.get s place

-- what is seen has a place, at which it is looked at
abbrev pub WhatIsInViewHasAPlace : Type 0
WhatIsInViewHasAPlace = (v : HostViewMap) (path : PathParts) (e : Entry) → finmap.get (view v) path ≡ Some e → content_at v (viewed_place v path) ≡ shown e

-- and the place of what is seen there is that place
abbrev pub WhatIsViewedThereIsItsOwn : Type 0
WhatIsViewedThereIsItsOwn = (s : EntryMap) (viewer : Viewer) (place : PlaceParts) (level : ℕ) → level_for viewer place ≡ Some level
    → viewed_place (host_view_of s viewer) (path_at level place.path.folder place.path.name) ≡ place

-- what stands at a place without a level changes nothing of what is looked at
abbrev pub OtherHostsAreNotInView : Type 0
OtherHostsAreNotInView = (s t : EntryMap) (viewer : Viewer) (place : PlaceParts) → level_for viewer place ≡ None → ((q : PlaceParts) → q ≢ place → finmap.get s q ≡ finmap.get t q) → host_view_of s viewer ≡ host_view_of t viewer

-- nothing is held at a place of this scope
abbrev pub HoldsNothing : EntryMap → Scope → Type 0
HoldsNothing s scope = (path : PathParts) → finmap.get s (within scope path) ≡ None

-- nothing is visible at a place of this scope
abbrev pub ShowsNothing : EntryMap → Scope → Type 0
ShowsNothing s scope = (path : PathParts) → visible_at s (within scope path) ≡ None

-- a host without places of its own sees what is seen without one
abbrev pub HostsWithoutPlacesHaveTheFleetsView : Type 0
HostsWithoutPlacesHaveTheFleetsView = (s : EntryMap) (host : List ℕ) (profile : Profile) → HoldsNothing s (Host host)
    → view (host_view_of s (of_host host profile)) ≡ view (host_view_of s (of_fleet profile))

-- two stores show the same at each place that this host sees at the path: its own or the fleet's, as the path's level is
abbrev pub SameAtPlaces : EntryMap → EntryMap → Viewer → PathParts → Type 0
SameAtPlaces s t viewer p =
    (place : PlaceParts) → level_for viewer place ≡ Some (level_of p) → place.path.folder ≡ p.folder → place.path.name ≡ p.name
    → visible_at s place ≡ visible_at t place

-- then they show this host the same at the path
abbrev pub PlacesDecideViews : Type 0
PlacesDecideViews = (s t : EntryMap) (viewer : Viewer) (p : PathParts) → SameAtPlaces s t viewer p
    → viewed_at (host_view_of s viewer) p ≡ viewed_at (host_view_of t viewer) p

-- ---- numbers

odd_level : (r : ℕ) → ((r + r + 1) % 2 == 0) ≡ false
odd_level r = grind (arith, nat_tests)

even_level : (r : ℕ) → ((r + r) % 2 == 0) ≡ true
even_level r = grind (arith, nat_tests)

half_of_odd : (r : ℕ) → (r + r + 1) / 2 ≡ r
half_of_odd r = omega arith

half_of_even : (r : ℕ) → (r + r) / 2 ≡ r
half_of_even r = omega arith

-- ---- places that are looked at

fleets_viewed : (v : HostViewMap) (rank : ℕ) (folder name : List ℕ)
    → finmap.get (view v) (path_at (rank + rank + 1) folder name) ≡ finmap.get v.fleet (path_at rank folder name)
fleets_viewed v rank folder name =
    get-view (path_at (rank + rank + 1) folder name) v
    ∙ ap (λ b. option_and_then (λ (held : PathMap). finmap.get held (path_at ((rank + rank + 1) / 2) folder name)) (cond b (option_map (λ (o : Own). o.held) v.own) (Some v.fleet))) (odd_level rank)
    ∙ ap (λ r. finmap.get v.fleet (path_at r folder name)) (half_of_odd rank)

own_viewed : (own : Own) (fleet : PathMap) (profile : Profile) (rank : ℕ) (folder name : List ℕ) → finmap.get (view (record { own = Some own; fleet = fleet; profile = profile })) (path_at (rank + rank) folder name) ≡ finmap.get own.held (path_at rank folder name)
own_viewed own fleet profile rank folder name =
    get-view (path_at (rank + rank) folder name) (record { own = Some own; fleet = fleet; profile = profile })
    ∙ ap (λ b. option_and_then (λ (held : PathMap). finmap.get held (path_at ((rank + rank) / 2) folder name)) (cond b (Some own.held) (Some fleet))) (even_level rank)
    ∙ ap (λ r. finmap.get own.held (path_at r folder name)) (half_of_even rank)

-- a host that looks has its own name
same_host : (k h : List ℕ) (rank level : ℕ) → cond (bytes_eq k h) (Some (rank + rank)) None ≡ Some level → (k ≡ h) × (rank + rank ≡ level)
same_host k h rank level = by (bytes_eq k h) refl
  where
    by : (b : Bool) → bytes_eq k h ≡ b → cond b (Some (rank + rank)) None ≡ Some level → (k ≡ h) × (rank + rank ≡ level)
    by true t e = ((bytes_eq-Decides k h).0 t, same_Some _ _ e)
    by false t e = cc (e)

-- a host that doesn't look has another name
other_host : (k h : List ℕ) (rank : ℕ) → cond (bytes_eq k h) (Some (rank + rank)) None ≡ None → h ≢ k
other_host k h rank e same = by (bytes_eq k h) (ap (bytes_eq k) same ∙ (bytes_eq-Decides k k).1 refl) e
  where
    by : (b : Bool) → b ≡ true → cond b (Some (rank + rank)) None ≡ None → ⊥
    by true t e = cc (e)
    by false t e = cc (t)

-- what a host has for itself is what the store has at its places
own_held : (s : EntryMap) (h : List ℕ) (profile : Profile) (path : PathParts)
    → finmap.get (view (host_view_of s (of_host h profile))) (path_at (path.rank + path.rank) path.folder path.name)
    ≡ finmap.get s (within (Host h) path)
own_held s h profile path = own_viewed (record { host = h; held = scope_of s (Host h) }) (scope_of s Fleet) profile path.rank path.folder path.name ∙ get-scope_of (Host h) s path

fleets_held : (s : EntryMap) (viewer : Viewer) (path : PathParts)
    → finmap.get (view (host_view_of s viewer)) (path_at (path.rank + path.rank + 1) path.folder path.name)
    ≡ finmap.get s (within Fleet path)
fleets_held s viewer path = fleets_viewed (host_view_of s viewer) path.rank path.folder path.name ∙ get-scope_of Fleet s path

pub places_are_in_views : PlacesAreInViews
places_are_in_views s viewer place level is = by viewer.host place.scope is
  where
    by : (host : Option (List ℕ)) (scope : Scope) → level_for (record viewer { host = host }) (within scope place.path) ≡ Some level
        → finmap.get (view (host_view_of s (record viewer { host = host })))
        (path_at level place.path.folder place.path.name) ≡ finmap.get s (within scope place.path)
    by host Fleet e =
        ap (λ l. finmap.get (view (host_view_of s (record viewer { host = host }))) (path_at l place.path.folder place.path.name)) (sym (same_Some _ _ e))
        ∙ fleets_held s (record viewer { host = host }) place.path
    by None (Host k) e = cc (e)
    by (Some h) (Host k) e =
        let same = same_host k h place.path.rank level e in
        ap (λ l. finmap.get (view (host_view_of s (of_host h viewer.profile))) (path_at l place.path.folder place.path.name)) (sym same.1)
        ∙ own_held s h viewer.profile place.path ∙ ap (λ x. finmap.get s (within (Host x) place.path)) (sym same.0)

pub what_is_viewed_there_is_its_own : WhatIsViewedThereIsItsOwn
what_is_viewed_there_is_its_own s viewer place level is = by viewer.host place.scope is
  where
    folder : List ℕ
    folder = place.path.folder

    name : List ℕ
    name = place.path.name

    by : (host : Option (List ℕ)) (scope : Scope) → level_for (record viewer { host = host }) (within scope place.path) ≡ Some level
        → viewed_place (host_view_of s (record viewer { host = host })) (path_at level folder name) ≡ within scope place.path
    by host Fleet e =
        let rank = place.path.rank in
        ap (λ l. viewed_place (host_view_of s (record viewer { host = host })) (path_at l folder name)) (sym (same_Some _ _ e))
        ∙ (λ i. record {
          scope = cond (odd_level rank i) (own_scope (option_map (own_of s) host)) Fleet;
          path = path_at (half_of_odd rank i) folder name;
        })
    by None (Host k) e = cc (e)
    by (Some h) (Host k) e =
        let rank = place.path.rank in
        let same = same_host k h rank level e in
        ap (λ l. viewed_place (host_view_of s (of_host h viewer.profile)) (path_at l folder name)) (sym same.1)
        ∙ (λ i. record { scope = cond (even_level rank i) (Host h) Fleet; path = path_at (half_of_even rank i) folder name })
        ∙ ap (λ x. within (Host x) place.path) (sym same.0)

-- ---- what is seen has a place

pub what_is_in_view_has_a_place : WhatIsInViewHasAPlace
what_is_in_view_has_a_place v path e got = by (path.rank % 2 == 0) refl v.own refl (sym (get-view path v) ∙ got)
  where
    by : (b : Bool) → (path.rank % 2 == 0) ≡ b → (own : Option Own) → v.own ≡ own
        → option_and_then (λ (held : PathMap). finmap.get held (path_after path))
        (cond (path.rank % 2 == 0) (option_map (λ (o : Own). o.held) v.own) (Some v.fleet)) ≡ Some e
        → content_at v (viewed_place v path) ≡ shown e
    by true even (Some own) is got =
        let there : finmap.get own.held (path_after path) ≡ Some e = (λ i. option_and_then (λ (held : PathMap). finmap.get held (path_after path)) (cond (sym even i) (option_map (λ (o : Own). o.held) (sym is i)) (Some v.fleet))) ∙ got in
        let scope : scope_at v path.rank ≡ Host own.host = (λ i. cond (even i) (own_scope (is i)) Fleet) in
        ap (λ (sc : Scope). option_and_then (λ (held : PathMap). option_and_then shown (finmap.get held (path_after path))) (held_by v sc)) scope
        ∙ ap (λ (o : Option Own). option_and_then (λ (held : PathMap). option_and_then shown (finmap.get held (path_after path))) (option_and_then (λ (x : Own). held_by_own x own.host) o)) is
        ∙ ap (λ b. option_and_then (λ (held : PathMap). option_and_then shown (finmap.get held (path_after path))) (cond b (Some own.held) None)) ((bytes_eq-Decides own.host own.host).1 refl)
        ∙ ap (option_and_then shown) there
    by true even None is got =
        let none : None ≡ Some e = (λ i. option_and_then (λ (held : PathMap). finmap.get held (path_after path)) (cond (sym even i) (option_map (λ (o : Own). o.held) (sym is i)) (Some v.fleet))) ∙ got in
        cc (none)
    by false odd own is got =
        let there : finmap.get v.fleet (path_after path) ≡ Some e = ap (λ b. option_and_then (λ (held : PathMap). finmap.get held (path_after path)) (cond b (option_map (λ (o : Own). o.held) v.own) (Some v.fleet))) (sym odd) ∙ got in
        ap (λ b. option_and_then (λ (held : PathMap). option_and_then shown (finmap.get held (path_after path))) (held_by v (cond b (own_scope v.own) Fleet))) odd
        ∙ ap (option_and_then shown) there

-- the same of what is visible
pub content_viewed : (v : HostViewMap) (path : PathParts) (c : Content) → viewed_at v path ≡ Some c
    → content_at v (viewed_place v path) ≡ Some c
content_viewed v path c is = by (finmap.get (view v) path) refl is
  where
    by : (o : Option Entry) → finmap.get (view v) path ≡ o → option_and_then shown o ≡ Some c → content_at v (viewed_place v path) ≡ Some c
    by None at e = cc (e)
    by (Some x) at e = what_is_in_view_has_a_place v path x at ∙ e

-- a path has one place in views for one host
pub same_place : (v w : HostViewMap) → AreForOne v w → (path : PathParts) → viewed_place v path ≡ viewed_place w path
same_place v w one path = (λ i. record { scope = cond (path.rank % 2 == 0) (one.0 i) Fleet; path = path_after path })

-- a view is for the one who looks
pub one_viewer : (s : EntryMap) (viewer : Viewer) → viewer_of (host_view_of s viewer) ≡ viewer
one_viewer s viewer = ap (λ (host : Option (List ℕ)). record viewer { host = host }) (by viewer.host)
  where
    by : (host : Option (List ℕ)) → option_map (λ (own : Own). own.host) (option_map (own_of s) host) ≡ host
    by None = refl
    by (Some h) = refl

-- ---- other hosts

same_scope : (s t : EntryMap) (place : PlaceParts) (scope : Scope) → place.scope ≢ scope
    → ((q : PlaceParts) → q ≢ place → finmap.get s q ≡ finmap.get t q) → scope_of s scope ≡ scope_of t scope
same_scope s t place scope apart same =
    finmap.same_map path_cmp_total path_cmp-IsAntisymmetric (scope_of s scope) (scope_of t scope)
    (λ p. get-scope_of scope s p ∙ same (within scope p) (λ e. apart (ap (λ (q : PlaceParts). q.scope) (sym e))) ∙ sym (get-scope_of scope t p))

named : (h k : List ℕ) → Host h ≡ Host k → h ≡ k
named h k e = ap scope_bytes e

pub other_hosts_are_not_in_view : OtherHostsAreNotInView
other_hosts_are_not_in_view s t viewer place none same = by viewer.host place.scope refl none
  where
    by : (host : Option (List ℕ)) (scope : Scope) → place.scope ≡ scope
        → level_for (record viewer { host = host }) (within scope place.path) ≡ None
        → host_view_of s (record viewer { host = host }) ≡ host_view_of t (record viewer { host = host })
    by host Fleet is e = cc (e)
    by None (Host k) is e = (λ i. record { own = None; fleet = same_scope s t place Fleet (λ f. let wrong = sym is ∙ f in cc (wrong)) same i; profile = viewer.profile })
    by (Some h) (Host k) is e =
        let own = same_scope s t place (Host h) (λ f. other_host k h place.path.rank e (named h k (sym f ∙ is))) same in
        let fleet = same_scope s t place Fleet (λ f. let wrong = sym is ∙ f in cc (wrong)) same in
        (λ i. record { own = Some (record { host = h; held = own i }); fleet = fleet i; profile = viewer.profile })

-- ---- a host without places

pub hosts_without_places_have_the_fleets_view : HostsWithoutPlacesHaveTheFleetsView
hosts_without_places_have_the_fleets_view s host profile none =
    finmap.same_map path_cmp_total path_cmp-IsAntisymmetric (view (host_view_of s (of_host host profile))) (view (host_view_of s (of_fleet profile)))
    (λ p. get-view p (host_view_of s (of_host host profile)) ∙ by p (p.rank % 2 == 0) ∙ sym (get-view p (host_view_of s (of_fleet profile))))
  where
    by : (p : PathParts) (b : Bool)
        → option_and_then (λ (held : PathMap). finmap.get held (path_after p))
        (cond b (Some (scope_of s (Host host))) (Some (scope_of s Fleet)))
        ≡ option_and_then (λ (held : PathMap). finmap.get held (path_after p)) (cond b None (Some (scope_of s Fleet)))
    by p true = get-scope_of (Host host) s (path_after p) ∙ none (path_after p)
    by p false = refl

-- ---- what is visible without a host

-- at a level of the fleet's it is what is visible at the path behind it, and at a host's it is nothing
pub fleets_sights : (s : EntryMap) (profile : Profile) (p : PathParts) → viewed_at (host_view_of s (of_fleet profile)) p
    ≡ cond (p.rank % 2 == 0) None (shown_at (scope_of s Fleet) (path_after p))
fleets_sights s profile p = ap (option_and_then shown) (get-view p (host_view_of s (of_fleet profile))) ∙ by (p.rank % 2 == 0)
  where
    by : (b : Bool)
        → option_and_then shown
        (option_and_then (λ (held : PathMap). finmap.get held (path_after p))
        (cond b None (Some (scope_of s Fleet)))) ≡ cond b None (shown_at (scope_of s Fleet) (path_after p))
    by true = refl
    by false = refl

-- what is visible of the fleet at a path is visible at its level
pub fleets_shown : (s : EntryMap) (profile : Profile) (p : PathParts)
    → viewed_at (host_view_of s (of_fleet profile)) (path_at (p.rank + p.rank + 1) p.folder p.name)
    ≡ shown_at (scope_of s Fleet) p
fleets_shown s profile p = ap (option_and_then shown) (fleets_viewed (host_view_of s (of_fleet profile)) p.rank p.folder p.name)

-- a host at whose places nothing is visible sees what is visible without one
pub same_sights : (s : EntryMap) (host : List ℕ) (profile : Profile) → ShowsNothing s (Host host) → (p : PathParts)
    → viewed_at (host_view_of s (of_host host profile)) p ≡ viewed_at (host_view_of s (of_fleet profile)) p
same_sights s host profile none p = ap (option_and_then shown) (get-view p (host_view_of s (of_host host profile))) ∙ by (p.rank % 2 == 0) ∙ sym (fleets_sights s profile p)
  where
    by : (b : Bool)
        → option_and_then shown
        (option_and_then (λ (held : PathMap). finmap.get held (path_after p))
        (cond b (Some (scope_of s (Host host))) (Some (scope_of s Fleet))))
        ≡ cond b None (shown_at (scope_of s Fleet) (path_after p))
    by true = ap (option_and_then shown) (get-scope_of (Host host) s (path_after p)) ∙ none (path_after p)
    by false = refl

-- what is visible without a host is the fleet's, and so is its place in each view
pub fleets_level : (s : EntryMap) (profile : Profile) (p : PathParts) (c : Content)
    → viewed_at (host_view_of s (of_fleet profile)) p ≡ Some c → (p.rank % 2 == 0) ≡ false
fleets_level s profile p c is = by (p.rank % 2 == 0) (sym (fleets_sights s profile p) ∙ is)
  where
    by : (b : Bool) → cond b None (shown_at (scope_of s Fleet) (path_after p)) ≡ Some c → b ≡ false
    by true e = cc (e)
    by false e = refl

pub fleets_place : (v : HostViewMap) (p : PathParts) → (p.rank % 2 == 0) ≡ false → viewed_place v p ≡ within Fleet (path_after p)
fleets_place v p odd = (λ i. record { scope = cond (odd i) (own_scope v.own) Fleet; path = path_after p })

-- ---- what places decide

-- twice half of an even number is that number, and so is twice half of an odd one and one
twice_half : (r : ℕ) → (r % 2 == 0) ≡ true → r / 2 + r / 2 ≡ r
twice_half r even = let left : r % 2 ≡ 0 = grind (arith, nat_tests, even) in omega (arith, left)

twice_half_and_one : (r : ℕ) → (r % 2 == 0) ≡ false → r / 2 + r / 2 + 1 ≡ r
twice_half_and_one r odd = let left : ¬ (r % 2 ≡ 0) = grind (arith, nat_tests, odd) in omega (arith, left)

-- what is looked at at an even level, or at an odd one
abbrev looked_at : EntryMap → Option (List ℕ) → Bool → Option PathMap
looked_at s host b = cond b (option_map (λ (o : Own). o.held) (option_map (own_of s) host)) (Some (scope_of s Fleet))

pub places_decide_views : PlacesDecideViews
places_decide_views s t viewer p same =
    ap (option_and_then shown) (get-view p (host_view_of s viewer))
    ∙ by viewer.host (p.rank % 2 == 0) refl same
    ∙ ap (option_and_then shown) (sym (get-view p (host_view_of t viewer)))
  where
    by : (host : Option (List ℕ)) (b : Bool) → (p.rank % 2 == 0) ≡ b → SameAtPlaces s t (record viewer { host = host }) p
        → option_and_then shown (option_and_then (λ (held : PathMap). finmap.get held (path_after p)) (looked_at s host b))
        ≡ option_and_then shown (option_and_then (λ (held : PathMap). finmap.get held (path_after p)) (looked_at t host b))
    by host false odd same =
        ap (option_and_then shown) (get-scope_of Fleet s (path_after p))
        ∙ same (within Fleet (path_after p)) (ap Some (twice_half_and_one p.rank odd)) refl refl
        ∙ ap (option_and_then shown) (sym (get-scope_of Fleet t (path_after p)))
    by None true even same = refl
    by (Some h) true even same =
        ap (option_and_then shown) (get-scope_of (Host h) s (path_after p))
        ∙ same (within (Host h) (path_after p))
        (ap (λ b. cond b (Some (p.rank / 2 + p.rank / 2)) None) ((bytes_eq-Decides h h).1 refl) ∙ ap Some (twice_half p.rank even))
        refl refl
        ∙ ap (option_and_then shown) (sym (get-scope_of (Host h) t (path_after p)))

-- where nothing is visible at the places that are looked at for a path, nothing is seen at it
pub nothing_viewed : (s : EntryMap) (viewer : Viewer) (p : PathParts)
    → ((place : PlaceParts) → level_for viewer place ≡ Some (level_of p) → place.path.folder ≡ p.folder → place.path.name ≡ p.name
    → visible_at s place ≡ None)
    → viewed_at (host_view_of s viewer) p ≡ None
nothing_viewed s viewer p none =
    places_decide_views s finmap.empty viewer p (λ place l folder name. none place l folder name ∙ sym (nowhere place))
    ∙ ap (option_and_then shown) (get-view p (host_view_of finmap.empty viewer))
    ∙ by viewer.host (p.rank % 2 == 0)
  where
    nowhere : (place : PlaceParts) → visible_at finmap.empty place ≡ None
    nowhere place = ap (option_and_then shown) (finmap.get-empty place_cmp place)

    by : (host : Option (List ℕ)) (b : Bool)
        → option_and_then shown (option_and_then (λ (held : PathMap). finmap.get held (path_after p)) (looked_at finmap.empty host b))
        ≡ None
    by host false = ap (option_and_then shown) (get-scope_of Fleet finmap.empty (path_after p)) ∙ nowhere (within Fleet (path_after p))
    by None true = refl
    by (Some h) true =
        ap (option_and_then shown) (get-scope_of (Host h) finmap.empty (path_after p)) ∙ nowhere (within (Host h) (path_after p))
