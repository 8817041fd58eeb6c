-- Laws of crossed units: what decides whether one is crossed, and where none is.
use Rattle.std.proofs.Common.{◌%◌, ◌==◌, ◌≡◌}
use Rattle.host_trees.specs.{Prelude.{ap, as_found, At, Candidate, cond, Content, dirs_by, dirs_with, DropIns, ending, EntryMap, Fleet, fleets_sights, Folder, folders, folders_decide, get-scope_of, Host, host_view_of, HostViewMap, IsLevel, IsTakenOver, level_of, Links, List, Name, name_dirs, None, of_fleet, of_host, OfName, OfType, option_and_then, Owner, path_after, PathParts, Profile, same_sights, scope_of, Search, shown, shown_at, ShowsNothing, slice_get, Some, Stands, sym, type_dirs, Viewer, viewed_at, ℕ, ◌∙◌}, Reads.{HasDropInOf, HasLinkOf, ReadsAlike, ReadsAlikeOf, ReadsItsTree, ShowsTree}, TreeLaws.{fleets_stand}, Trees.{fleets_at, standing}}

-- One store that shows just the tree tells of all such stores.
abbrev pub OneStoreTellsAll : Type 0
OneStoreTellsAll = (s t : EntryMap) (viewer : Viewer) (names : List Name) → ShowsTree t s viewer.host
    → ReadsAlike (host_view_of s viewer) (host_view_of t (of_fleet viewer.profile)) names → ReadsItsTree s viewer names

-- Without a host no unit is crossed.
abbrev pub WithoutAHostNoneIsCrossed : Type 0
WithoutAHostNoneIsCrossed = (s : EntryMap) (profile : Profile) (names : List Name) → ReadsItsTree s (of_fleet profile) names

-- Nor is any for a host at whose places nothing is visible.
abbrev pub HostsWithoutPlacesHaveNoneCrossed : Type 0
HostsWithoutPlacesHaveNoneCrossed = (s : EntryMap) (host : List ℕ) (profile : Profile) → ShowsNothing s (Host host) → (names : List Name)
    → ReadsItsTree s (of_host host profile) names

-- ---- views in which the same is visible in the folders of a unit

-- The same is visible in these folders, at all levels.
abbrev pub SameIn : HostViewMap → HostViewMap → List (List ℕ) → Type 0
SameIn v w ds = (p : PathParts) (i : ℕ) → IsLevel (level_of p) → slice_get ds i ≡ Some p.folder → viewed_at v p ≡ viewed_at w p

same_back : (v w : HostViewMap) (ds : List (List ℕ)) → SameIn v w ds → SameIn w v ds
same_back v w ds same p i within is = sym (same p i within is)

stands : (v w : HostViewMap) (x : Search) (ds : List (List ℕ)) → SameIn v w ds → (c : Candidate) (p : PathParts) (i : ℕ)
    → Stands v x ds c p i → Stands w x ds c p i
stands v w x ds same c p i st = record {
  level_within = st.level_within;
  folder_is = st.folder_is;
  says = ap (option_and_then (as_found x p)) (sym (same p i st.level_within st.folder_is)) ∙ st.says;
}

-- The same is visible in the folders of names and of types.
same_by : (v w : HostViewMap) (ds ts : List (List ℕ)) → SameIn v w ds → SameIn v w ts → (o : Owner) → SameIn v w (dirs_by o ds ts)
same_by v w ds ts names types OfName = names
same_by v w ds ts names types OfType = types

taken_over : (v w : HostViewMap) (x : Search) (ds ts : List (List ℕ)) → SameIn v w ds → SameIn v w ts → (c : Candidate) (p : PathParts)
    → IsTakenOver v x ds ts c p → IsTakenOver w x ds ts c p
taken_over v w x ds ts names types c p t =
    let same = same_by v w ds ts names types in
    record {
      owner = t.owner;
      place = t.place;
      stands = stands v w x (dirs_by t.owner ds ts) (same t.owner) c p t.place t.stands;
      least = λ d q o i st n. t.least d q o i (stands w v x (dirs_by o ds ts) (same_back v w (dirs_by o ds ts) (same o)) d q i st) n;
    }

-- The same is visible in all folders of a unit.
pub record SameInFolders (v w : HostViewMap) (fs : List Name) : Type 0 where
  pub names : SameIn v w (name_dirs fs)
  pub types : SameIn v w (type_dirs fs)
  pub links : (folder : Folder) → SameIn v w (dirs_with (ending folder) fs)

drop_in : (v w : HostViewMap) (fs : List Name) → SameInFolders v w fs → (file : List ℕ) (c : Content)
    → HasDropInOf v fs file c → HasDropInOf w fs file c
drop_in v w fs same file c h =
    let d = h.is_drop_in in
    let here = same_by v w (name_dirs fs) (type_dirs fs) same.names same.types d.owner in
    record {
      path = h.path;
      name_is = h.name_is;
      is_drop_in = taken_over v w DropIns (name_dirs fs) (type_dirs fs) same.names same.types (At h.path) h.path d;
      seen = sym (here h.path d.place d.stands.level_within d.stands.folder_is) ∙ h.seen;
    }

link : (v w : HostViewMap) (fs : List Name) → SameInFolders v w fs → (folder : Folder) (file : List ℕ) (c : Content)
    → HasLinkOf v fs folder file c → HasLinkOf w fs folder file c
link v w fs same folder file c h =
    let l = h.is_link.1 in
    record {
      path = h.path;
      name_is = h.name_is;
      is_link = (h.is_link.0, folders_decide v w Links (dirs_with (ending folder) fs) (same.links folder) (At h.path) h.path l);
      seen = sym (same.links folder h.path l.place l.stands.level_within l.stands.folder_is) ∙ h.seen;
    }

-- In such views a unit reads the same.
pub same_folders_read_alike : (v w : HostViewMap) (fs : List Name) → SameInFolders v w fs → ReadsAlikeOf v w fs
same_folders_read_alike v w fs same =
    let back : SameInFolders w v fs =
    record {
      names = same_back v w (name_dirs fs) same.names;
      types = same_back v w (type_dirs fs) same.types;
      links = λ folder. same_back v w (dirs_with (ending folder) fs) (same.links folder);
    } in
    record {
      drop_ins = λ file c. (drop_in v w fs same file c, drop_in w v fs back file c);
      links = λ folder file c. (link v w fs same folder file c, link w v fs back folder file c);
    }

abbrev SameSights : HostViewMap → HostViewMap → Type 0
SameSights v w = (p : PathParts) → viewed_at v p ≡ viewed_at w p

same_sights_read_alike : (v w : HostViewMap) → SameSights v w → (fs : List Name) → ReadsAlikeOf v w fs
same_sights_read_alike v w same fs =
    same_folders_read_alike v w fs
    (record { names = λ p i l f. same p; types = λ p i l f. same p; links = λ folder p i l f. same p })

reads_on : (u v w : HostViewMap) (fs : List Name) → ReadsAlikeOf u v fs → ReadsAlikeOf v w fs → ReadsAlikeOf u w fs
reads_on u v w fs a b = record {
  drop_ins = λ file c. (λ h. (b.drop_ins file c).0 ((a.drop_ins file c).0 h), λ h. (a.drop_ins file c).1 ((b.drop_ins file c).1 h));
  links = λ folder file c.
      (λ h. (b.links folder file c).0 ((a.links folder file c).0 h), λ h. (a.links folder file c).1 ((b.links folder file c).1 h));
}

-- ---- stores that show the same at the fleet's places

fleets_shown_at : (s : EntryMap) (p : PathParts) → shown_at (scope_of s Fleet) p ≡ fleets_at s p
fleets_shown_at s p = ap (option_and_then shown) (get-scope_of Fleet s p)

pub fleets_decide_sights : (s t : EntryMap) (profile : Profile) → ((p : PathParts) → fleets_at s p ≡ fleets_at t p)
    → (p : PathParts) → viewed_at (host_view_of s (of_fleet profile)) p ≡ viewed_at (host_view_of t (of_fleet profile)) p
fleets_decide_sights s t profile same p =
    let q = path_after p in
    fleets_sights s profile p ∙ ap (cond (p.rank % 2 == 0) None) (fleets_shown_at s q ∙ same q ∙ sym (fleets_shown_at t q)) ∙ sym (fleets_sights t profile p)

pub one_store_tells_all : OneStoreTellsAll
one_store_tells_all s t viewer names shows alike u shown_too =
    reads_on (host_view_of s viewer) (host_view_of t (of_fleet viewer.profile)) (host_view_of u (of_fleet viewer.profile)) (folders names) alike
    (same_sights_read_alike (host_view_of t (of_fleet viewer.profile)) (host_view_of u (of_fleet viewer.profile))
    (fleets_decide_sights t u viewer.profile (λ p. shows p ∙ sym (shown_too p))) (folders names))

pub without_a_host_none_is_crossed : WithoutAHostNoneIsCrossed
without_a_host_none_is_crossed s profile names t shows =
    same_sights_read_alike (host_view_of s (of_fleet profile)) (host_view_of t (of_fleet profile))
    (fleets_decide_sights s t profile (λ p. sym (shows p ∙ fleets_stand p (fleets_at s p)))) (folders names)

pub hosts_without_places_have_none_crossed : HostsWithoutPlacesHaveNoneCrossed
hosts_without_places_have_none_crossed s host profile none names t shows =
    let bare : ShowsTree t s None = λ p. shows p ∙ ap (λ own. standing p own (fleets_at s p)) (none p) in
    reads_on (host_view_of s (of_host host profile)) (host_view_of s (of_fleet profile)) (host_view_of t (of_fleet profile)) (folders names)
    (same_sights_read_alike (host_view_of s (of_host host profile)) (host_view_of s (of_fleet profile)) (same_sights s host profile none) (folders names))
    (without_a_host_none_is_crossed s profile names t bare)
