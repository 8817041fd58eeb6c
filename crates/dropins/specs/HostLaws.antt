-- Laws of hosts: a host at whose places nothing is visible has the same drop-ins and links as without a host, and these
-- are the drop-ins and links of the fleet by rank.
use Rattle.std.proofs.Common.{◌%◌, ◌+◌, ◌/◌, ◌<◌, ◌==◌, ◌↔◌, ◌∷◌, ◌≡◌, ◌≤◌, ◌⊎◌}
use Rattle.dropins.specs.Prelude.{[], ap, arith, Bool, cond, Content, EntryMap, false, File, Fleet, fleets_level, fleets_place, fleets_shown, fleets_sights, Gone, Host, host_view_of, HostViewMap, inl, inr, Link, List, Name, nat_tests, None, of_fleet, of_host, Option, option_and_then, option_map, path_after, path_at, PathParts, PlaceParts, Profile, refl, same_sights, scope_of, shown_at, ShowsNothing, Some, sym, true, viewed_at, viewed_place, within, ℕ, ◌∙◌}
use Rattle.dropins.specs.{declared.{folder_lists.Folder.{Folder}, precedence.Search.{Search, TheVariants.{DropIns, Links}}}, FleetDropIns.{FleetStands, IsFleetDropIn, IsFleetLink, IsFleetTaken}, FolderLists.{folders}, OverLaws.{folders_decide_over, over_none, over_of_names}, PrecedenceLaws.{folders_decide}, Taken.{as_found, Candidate, Candidate.{At, Mask}, content_as_drop_in, dirs_by, dirs_with, ending, is_conf, is_null, IsDropInAt, IsDropInOf, IsLinked, IsTakenOver, name_dirs, Owner, Precedes, Stands, type_dirs}}

-- A host at whose places nothing is visible has the same drop-ins as without a host.
abbrev pub HostsWithoutPlacesHaveTheseDropIns : Type 0
HostsWithoutPlacesHaveTheseDropIns = (s : EntryMap) (host : List ℕ) (profile : Profile) → ShowsNothing s (Host host) → (ns : List Name) (place : PlaceParts) → IsDropInAt (host_view_of s (of_host host profile)) ns place ↔ IsDropInAt (host_view_of s (of_fleet profile)) ns place

-- Such a host has the same links as without a host.
abbrev pub HostsWithoutPlacesHaveTheseLinks : Type 0
HostsWithoutPlacesHaveTheseLinks = (s : EntryMap) (host : List ℕ) (profile : Profile) → ShowsNothing s (Host host) → (ns : List Name) (d : Folder) (n : Name) → IsLinked (host_view_of s (of_host host profile)) ns d n ↔ IsLinked (host_view_of s (of_fleet profile)) ns d n

-- The drop-ins without a host are the fleet's places of the drop-ins by rank.
abbrev pub DropInsAreTheFleets : Type 0
DropInsAreTheFleets = (s : EntryMap) (profile : Profile) (ns : List Name) (place : PlaceParts) → IsDropInAt (host_view_of s (of_fleet profile)) ns place ↔ ((p : PathParts) × (within Fleet p ≡ place) × IsFleetDropIn (scope_of s Fleet) ns p)

-- The links without a host are the links by rank.
abbrev pub LinksAreTheFleets : Type 0
LinksAreTheFleets = (s : EntryMap) (profile : Profile) (ns : List Name) (d : Folder) (n : Name) → IsLinked (host_view_of s (of_fleet profile)) ns d n ↔ IsFleetLink (scope_of s Fleet) ns d n

-- ---- a host without places

-- A candidate that is seen without a host belongs to the fleet.
found_level : (s : EntryMap) (profile : Profile) (x : Search) (p : PathParts) (c : Candidate)
    → option_and_then (as_found x p) (viewed_at (host_view_of s (of_fleet profile)) p) ≡ Some c
    → (p.rank % 2 == 0) ≡ false
found_level s profile x p c says = by (viewed_at (host_view_of s (of_fleet profile)) p) refl says
  where
    by : (o : Option Content) → viewed_at (host_view_of s (of_fleet profile)) p ≡ o
        → option_and_then (as_found x p) o ≡ Some c → (p.rank % 2 == 0) ≡ false
    by None is e = cc (e)
    by (Some content) is e = fleets_level s profile p content is

pub hosts_without_places_have_these_drop_ins : HostsWithoutPlacesHaveTheseDropIns
hosts_without_places_have_these_drop_ins s host profile none ns place = (there, back)
  where
    same : (p : PathParts) → viewed_at (host_view_of s (of_host host profile)) p ≡ viewed_at (host_view_of s (of_fleet profile)) p
    same = same_sights s host profile none

    alike : (p : PathParts) → IsDropInOf (host_view_of s (of_fleet profile)) (folders ns) p
        → viewed_place (host_view_of s (of_host host profile)) p ≡ viewed_place (host_view_of s (of_fleet profile)) p
    alike p d =
        let odd = found_level s profile DropIns p (At p) d.stands.says in
        fleets_place (host_view_of s (of_host host profile)) p odd ∙ sym (fleets_place (host_view_of s (of_fleet profile)) p odd)

    there : IsDropInAt (host_view_of s (of_host host profile)) ns place → IsDropInAt (host_view_of s (of_fleet profile)) ns place
    there (p, is, d) =
        let e = folders_decide_over (host_view_of s (of_host host profile)) (host_view_of s (of_fleet profile)) DropIns (name_dirs (folders ns)) (type_dirs (folders ns)) (λ o q i l f. same q) (At p) p d in
        (p, sym (alike p e) ∙ is, e)

    back : IsDropInAt (host_view_of s (of_fleet profile)) ns place → IsDropInAt (host_view_of s (of_host host profile)) ns place
    back (p, is, d) =
        let e = folders_decide_over (host_view_of s (of_fleet profile)) (host_view_of s (of_host host profile)) DropIns (name_dirs (folders ns)) (type_dirs (folders ns)) (λ o q i l f. sym (same q)) (At p) p d in
        (p, alike p d ∙ is, e)

linked_in : (s t : HostViewMap) → ((p : PathParts) → viewed_at s p ≡ viewed_at t p)
    → (ns : List Name) (d : Folder) (n : Name) → IsLinked s ns d n → IsLinked t ns d n
linked_in s t same ns d n l = record {
  name = l.name;
  path = l.path;
  name_is = l.name_is;
  taken = folders_decide s t Links (dirs_with (ending d) (folders ns)) (λ p i w f. same p) (At l.path) l.path l.taken;
}

pub hosts_without_places_have_these_links : HostsWithoutPlacesHaveTheseLinks
hosts_without_places_have_these_links s host profile none ns d n =
    (linked_in (host_view_of s (of_host host profile)) (host_view_of s (of_fleet profile)) (same_sights s host profile none) ns d n, linked_in (host_view_of s (of_fleet profile)) (host_view_of s (of_host host profile)) (λ p. sym (same_sights s host profile none p)) ns d n)

-- ---- levels and ranks

half_below : (level : ℕ) → level < 8 → level / 2 < 4
half_below level h = omega (arith, h)

level_below : (rank : ℕ) → rank < 4 → rank + rank + 1 < 8
level_below rank h = omega (arith, h)

half_of_odd : (rank : ℕ) → (rank + rank + 1) / 2 ≡ rank
half_of_odd rank = omega arith

twice_half : (level : ℕ) → (level % 2 == 0) ≡ false → level / 2 + level / 2 + 1 ≡ level
twice_half level odd = grind (arith, nat_tests)

-- The levels of the fleet have the order of their ranks.
module _ (a o : Owner) (place i level rank : ℕ) (odd : (level % 2 == 0) ≡ false) where
  ranks_precede : Precedes a level place o (rank + rank + 1) i → Precedes a (level / 2) place o rank i
  ranks_precede (inl h) = inl h
  ranks_precede (inr h) = inr (h.0, by h.1)
    where
      by : (level < rank + rank + 1) ⊎ ((level ≡ rank + rank + 1) × (place ≤ i)) → (level / 2 < rank) ⊎ ((level / 2 ≡ rank) × (place ≤ i))
      by (inl l) = inl (let whole = twice_half level odd in omega (arith, l, whole))
      by (inr e) = inr (let first = e.0 in omega (arith, first), e.1)

  levels_precede : Precedes a rank place o (level / 2) i → Precedes a (rank + rank + 1) place o level i
  levels_precede (inl h) = inl h
  levels_precede (inr h) = inr (h.0, by h.1)
    where
      by : (rank < level / 2) ⊎ ((rank ≡ level / 2) × (place ≤ i)) → (rank + rank + 1 < level) ⊎ ((rank + rank + 1 ≡ level) × (place ≤ i))
      by (inl l) = inl (let whole = twice_half level odd in omega (arith, l, whole))
      by (inr e) = inr (let first = e.0 in let whole = twice_half level odd in omega (arith, first, whole), e.1)

-- ---- a candidate at a level is one at its rank

-- A candidate with another path.
abbrev moved : PathParts → Candidate → Candidate
moved p Mask = Mask
moved p (At q) = At p

-- Which candidate a content is doesn't depend on the rank, except for the path.
module _ (p : PathParts) (rank : ℕ) where
  drop_in_moved : (c : Content) → content_as_drop_in (path_at rank p.folder p.name) c
      ≡ option_map (moved (path_at rank p.folder p.name)) (content_as_drop_in p c)
  drop_in_moved Gone = refl
  drop_in_moved (File []) = refl
  drop_in_moved (File (b ∷ bs)) = refl
  drop_in_moved (Link target) = by (is_null target)
    where
      by : (n : Bool) → cond n (Some Mask) None ≡ option_map (moved (path_at rank p.folder p.name)) (cond n (Some Mask) None)
      by true = refl
      by false = refl

  as_moved : (x : Search) (c : Content)
      → as_found x (path_at rank p.folder p.name) c ≡ option_map (moved (path_at rank p.folder p.name)) (as_found x p c)
  as_moved DropIns c = by (is_conf p.name)
    where
      by : (n : Bool) → cond n (content_as_drop_in (path_at rank p.folder p.name) c) None
          ≡ option_map (moved (path_at rank p.folder p.name)) (cond n (content_as_drop_in p c) None)
      by true = drop_in_moved c
      by false = refl
  as_moved Links Gone = refl
  as_moved Links (File bytes) = refl
  as_moved Links (Link target) = by (is_null target)
    where
      by : (n : Bool) → cond n (Some Mask) (Some (At (path_at rank p.folder p.name)))
          ≡ option_map (moved (path_at rank p.folder p.name)) (cond n (Some Mask) (Some (At p)))
      by true = refl
      by false = refl

  found_moved : (x : Search) (o : Option Content) → option_and_then (as_found x (path_at rank p.folder p.name)) o
      ≡ option_map (moved (path_at rank p.folder p.name)) (option_and_then (as_found x p) o)
  found_moved x None = refl
  found_moved x (Some c) = as_moved x c

-- The path at which a path of the fleet is seen.
abbrev above : PathParts → PathParts
above q = path_at (q.rank + q.rank + 1) q.folder q.name

after_above : (q : PathParts) → path_after (above q) ≡ q
after_above q = ap (λ rank. path_at rank q.folder q.name) (half_of_odd q.rank)

module _ (s : EntryMap) (profile : Profile) (x : Search) where
  viewed_after : (p : PathParts) → (p.rank % 2 == 0) ≡ false
      → viewed_at (host_view_of s (of_fleet profile)) p ≡ shown_at (scope_of s Fleet) (path_after p)
  viewed_after p odd = fleets_sights s profile p ∙ ap (λ b. cond b None (shown_at (scope_of s Fleet) (path_after p))) odd

  stands_by_rank : (ds : List (List ℕ)) (c : Candidate) (p : PathParts) (i : ℕ)
      → Stands (host_view_of s (of_fleet profile)) x ds c p i
      → FleetStands (scope_of s Fleet) x ds (moved (path_after p) c) (path_after p) i
  stands_by_rank ds c p i st = record {
    rank_within = half_below p.rank st.level_within;
    folder_is = st.folder_is;
    says =
        found_moved p (p.rank / 2) x (shown_at (scope_of s Fleet) (path_after p))
        ∙ ap (option_map (moved (path_after p))) (ap (option_and_then (as_found x p)) (sym (viewed_after p (found_level s profile x p c st.says))) ∙ st.says);
  }

  stands_by_level : (ds : List (List ℕ)) (c : Candidate) (q : PathParts) (i : ℕ)
      → FleetStands (scope_of s Fleet) x ds c q i
      → Stands (host_view_of s (of_fleet profile)) x ds (moved (above q) c) (above q) i
  stands_by_level ds c q i st = record {
    level_within = level_below q.rank st.rank_within;
    folder_is = st.folder_is;
    says =
        ap (option_and_then (as_found x (above q))) (fleets_shown s profile q)
        ∙ found_moved q (q.rank + q.rank + 1) x (shown_at (scope_of s Fleet) q)
        ∙ ap (option_map (moved (above q))) st.says;
  }

  module _ (ds ts : List (List ℕ)) where
    taken_by_rank : (p : PathParts) → IsTakenOver (host_view_of s (of_fleet profile)) x ds ts (At p) p
        → IsFleetTaken (scope_of s Fleet) x ds ts (At (path_after p)) (path_after p)
    taken_by_rank p t = record {
      owner = t.owner;
      place = t.place;
      stands = stands_by_rank (dirs_by t.owner ds ts) (At p) p t.place t.stands;
      least = λ d q o i st n.
          ranks_precede t.owner o t.place i p.rank q.rank (found_level s profile x p (At p) t.stands.says)
          (t.least (moved (above q) d) (above q) o i (stands_by_level (dirs_by o ds ts) d q i st) n);
    }

    taken_by_level : (q : PathParts) → IsFleetTaken (scope_of s Fleet) x ds ts (At q) q
        → IsTakenOver (host_view_of s (of_fleet profile)) x ds ts (At (above q)) (above q)
    taken_by_level q t = record {
      owner = t.owner;
      place = t.place;
      stands = stands_by_level (dirs_by t.owner ds ts) (At q) q t.place t.stands;
      least = λ d p o i st n.
          levels_precede t.owner o t.place i p.rank q.rank (found_level s profile x p d st.says)
          (t.least (moved (path_after p) d) (path_after p) o i (stands_by_rank (dirs_by o ds ts) d p i st) n);
    }

pub drop_ins_are_the_fleets : DropInsAreTheFleets
drop_ins_are_the_fleets s profile ns place = (there, back)
  where
    there : IsDropInAt (host_view_of s (of_fleet profile)) ns place
        → (p : PathParts) × (within Fleet p ≡ place) × IsFleetDropIn (scope_of s Fleet) ns p
    there (p, is, d) =
        let odd = found_level s profile DropIns p (At p) d.stands.says in
        (path_after p, sym (fleets_place (host_view_of s (of_fleet profile)) p odd) ∙ is, taken_by_rank s profile DropIns (name_dirs (folders ns)) (type_dirs (folders ns)) p d)

    back : (p : PathParts) × (within Fleet p ≡ place) × IsFleetDropIn (scope_of s Fleet) ns p
        → IsDropInAt (host_view_of s (of_fleet profile)) ns place
    back (q, is, d) =
        let e = taken_by_level s profile DropIns (name_dirs (folders ns)) (type_dirs (folders ns)) q d in
        let odd = found_level s profile DropIns (above q) (At (above q)) e.stands.says in
        (above q, fleets_place (host_view_of s (of_fleet profile)) (above q) odd ∙ ap (within Fleet) (after_above q) ∙ is, e)

pub links_are_the_fleets : LinksAreTheFleets
links_are_the_fleets s profile ns d n = (there, back)
  where
    there : IsLinked (host_view_of s (of_fleet profile)) ns d n → IsFleetLink (scope_of s Fleet) ns d n
    there l = record {
      name = l.name;
      path = path_after l.path;
      name_is = l.name_is;
      taken = taken_by_rank s profile Links (dirs_with (ending d) (folders ns)) [] l.path (over_of_names (host_view_of s (of_fleet profile)) Links (dirs_with (ending d) (folders ns)) [] (At l.path) l.path l.taken);
    }

    back : IsFleetLink (scope_of s Fleet) ns d n → IsLinked (host_view_of s (of_fleet profile)) ns d n
    back l = record {
      name = l.name;
      path = above l.path;
      name_is = l.name_is;
      taken = over_none (host_view_of s (of_fleet profile)) Links (dirs_with (ending d) (folders ns)) (At (above l.path)) (above l.path) (taken_by_level s profile Links (dirs_with (ending d) (folders ns)) [] l.path l.taken);
    }
