-- Where a host has nothing of its own in the folders of a unit, the unit isn't crossed.
use Rattle.std.proofs.Common.{◌+◌, ◌<◌, ◌≡◌, ◌⊎◌}
use Rattle.host_trees.specs.{ChoiceLaws.{halves}, CrossingLaws.{SameIn, same_folders_read_alike}, Prelude.{ap, arith, bytes_eq-Decides, cond, dirs_with, ending, EntryMap, Fleet, fleets_sights, folders, Folder, Host, host_view_of, HostViewMap, inl, inr, IsLevel, List, Name, name_dirs, None, of_fleet, of_host, Option, option_and_then, path_after, path_at, PathParts, places_are_in_views, refl, Requires, scope_of, shown, shown_at, slice_get, Some, subst, sym, type_dirs, Viewer, viewed_at, Wants, within, ℕ, ◌∙◌}, Reads.{ReadsAlikeOf, ReadsItsTree, ShowsTree}, TreeChoices.{even_level}, TreeLaws.{fleets_stand}, Trees.{fleets_at, own_at, standing}}

-- In this folder nothing is visible at the host's own levels.
abbrev pub OwnsNothingAt : HostViewMap → List ℕ → Type 0
OwnsNothingAt v folder = (r : ℕ) → r < 4 → (file : List ℕ) → viewed_at v (path_at (r + r) folder file) ≡ None

abbrev pub OwnsNothingIn : HostViewMap → List (List ℕ) → Type 0
OwnsNothingIn v ds = (i : ℕ) (folder : List ℕ) → slice_get ds i ≡ Some folder → OwnsNothingAt v folder

-- The same of all folders of a unit.
pub record OwnsNothing (v : HostViewMap) (fs : List Name) : Type 0 where
  pub names : OwnsNothingIn v (name_dirs fs)
  pub types : OwnsNothingIn v (type_dirs fs)
  pub wants : OwnsNothingIn v (dirs_with (ending Wants) fs)
  pub requires : OwnsNothingIn v (dirs_with (ending Requires) fs)

module _ (s t : EntryMap) (viewer : Viewer) (shows : ShowsTree t s viewer.host) where
  abbrev v : HostViewMap
  v = host_view_of s viewer

  abbrev w : HostViewMap
  w = host_view_of t (of_fleet viewer.profile)

  fleets_viewed_at : (u : EntryMap) (looks : Viewer) (r : ℕ) (folder file : List ℕ)
      → viewed_at (host_view_of u looks) (path_at (r + r + 1) folder file) ≡ fleets_at u (path_at r folder file)
  fleets_viewed_at u looks r folder file =
      ap (option_and_then shown) (places_are_in_views u looks (within Fleet (path_at r folder file)) (r + r + 1) refl)

  -- What the host doesn't show for itself isn't its own.
  own_none : (r : ℕ) (folder file : List ℕ) → viewed_at v (path_at (r + r) folder file) ≡ None
      → own_at s viewer.host (path_at r folder file) ≡ None
  own_none r folder file = by viewer.host
    where
      by : (h : Option (List ℕ)) → viewed_at (host_view_of s (record viewer { host = h })) (path_at (r + r) folder file)
          ≡ None → own_at s h (path_at r folder file) ≡ None
      by None e = refl
      by (Some h) e =
          sym (ap (option_and_then shown) (places_are_in_views s (of_host h viewer.profile) (within (Host h) (path_at r folder file)) (r + r)
          (ap (λ b. cond b (Some (r + r)) None) ((bytes_eq-Decides h h).1 refl)))) ∙ e

  same_at_level : (level : ℕ) (folder file : List ℕ) → IsLevel level → OwnsNothingAt v folder
      → viewed_at v (path_at level folder file) ≡ viewed_at w (path_at level folder file)
  same_at_level level folder file it_is none = by (halves level)
    where
      by : (r : ℕ) × ((level ≡ r + r) ⊎ (level ≡ r + r + 1))
          → viewed_at v (path_at level folder file) ≡ viewed_at w (path_at level folder file)
      by (r, inl e) =
          let own = none r (omega (arith, it_is, e)) file in
          let tree : viewed_at w (path_at (r + r) folder file) ≡ None =
          fleets_sights t viewer.profile (path_at (r + r) folder file)
          ∙ ap (λ b. cond b None (shown_at (scope_of t Fleet) (path_after (path_at (r + r) folder file)))) (even_level r) in
          subst (λ l. viewed_at v (path_at l folder file) ≡ viewed_at w (path_at l folder file)) (sym e) (own ∙ sym tree)
      by (r, inr e) =
          let q : PathParts = path_at r folder file in
          let own = own_none r folder file (none r (omega (arith, it_is, e)) file) in
          let stands : fleets_at t q ≡ fleets_at s q = shows q ∙ ap (λ o. standing q o (fleets_at s q)) own ∙ fleets_stand q (fleets_at s q) in
          subst (λ l. viewed_at v (path_at l folder file) ≡ viewed_at w (path_at l folder file)) (sym e)
          (fleets_viewed_at s viewer r folder file ∙ sym stands ∙ sym (fleets_viewed_at t (of_fleet viewer.profile) r folder file))

  same_in : (ds : List (List ℕ)) → OwnsNothingIn v ds → SameIn v w ds
  same_in ds none p i it_is folder_is = same_at_level p.rank p.folder p.name it_is (none i p.folder folder_is)

  reads_alike : (fs : List Name) → OwnsNothing v fs → ReadsAlikeOf v w fs
  reads_alike fs none = same_folders_read_alike v w fs (record { names = same_in (name_dirs fs) none.names; types = same_in (type_dirs fs) none.types; links = by })
    where
      by : (folder : Folder) → SameIn v w (dirs_with (ending folder) fs)
      by Wants = same_in (dirs_with (ending Wants) fs) none.wants
      by Requires = same_in (dirs_with (ending Requires) fs) none.requires

-- Such a unit isn't crossed.
pub nothing_of_its_own : (s : EntryMap) (viewer : Viewer) (names : List Name)
    → OwnsNothing (host_view_of s viewer) (folders names) → ReadsItsTree s viewer names
nothing_of_its_own s viewer names none t shows = reads_alike s t viewer shows (folders names) none
