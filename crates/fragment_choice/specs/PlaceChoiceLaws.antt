-- Laws of choices, said of a store's places: the first that stands for a name counts, and those of other hosts don't.
use Rattle.std.proofs.Common.{◌<◌, ◌∷◌, ◌≡◌, ◌≢◌, ◌≤◌, ◌⊎◌}
use Rattle.fragment_choice.specs.Prelude.{[], ap, arith, cases_lt, EntryMap, File, host_view_of, HostViewMap, inl, inr, lesser_ranks_go_first, level_for, levels_of_directories, List, Name, None, nothing_viewed, option_and_then, other_hosts_are_not_in_view, path_at, PlaceParts, places_are_in_views, refl, shown, Some, sym, viewed_at, viewed_place, Viewer, visible_at, what_is_viewed_there_is_its_own, ℕ, ◌∙◌}
use Rattle.fragment_choice.specs.{ChoiceLaws.{least_level_chooses}, Choices.{choice, content_says, own_path, own_place, says}, declared.choices.Choice.TheVariants.{Fragment}, Resolutions.{resolution}}
use Rattle.std.specs.FinMap as finmap

-- the place is a name's own: in one of the four directories, in no folder, and called as the name is
pub record IsPlaceOf (n : Name) (place : PlaceParts) : Type 0 where
  pub directory : place.path.rank < 4
  pub no_folder : place.path.folder ≡ []
  pub name_is : place.path.name ≡ n

-- a file that is visible at a name's own place, and isn't empty, is the name's fragment where nothing is visible at its own
-- places of lesser levels
abbrev pub FirstFilesAreFragments : Type 0
FirstFilesAreFragments = (s : EntryMap) (viewer : Viewer) (n : Name) (place : PlaceParts) (level : ℕ) (bytes : List ℕ)
    → IsPlaceOf n place → level_for viewer place ≡ Some level → visible_at s place ≡ Some (File bytes) → bytes ≢ []
    → ((other : PlaceParts) (lesser : ℕ) → IsPlaceOf n other → level_for viewer other ≡ Some lesser → lesser < level
    → visible_at s other ≡ None)
    → choice (host_view_of s viewer) n ≡ Fragment place

-- what stands at a place of another host, or of any host where none looks, changes neither the choice for a name nor what
-- stands for it
abbrev pub OtherHostsDontCount : Type 0
OtherHostsDontCount = (s t : EntryMap) (viewer : Viewer) (place : PlaceParts) → level_for viewer place ≡ None
    → ((q : PlaceParts) → q ≢ place → finmap.get s q ≡ finmap.get t q)
    → (n : Name) → (choice (host_view_of s viewer) n ≡ choice (host_view_of t viewer) n)
    × (resolution (host_view_of s viewer) n ≡ resolution (host_view_of t viewer) n)

pub first_files_are_fragments : FirstFilesAreFragments
first_files_are_fragments s viewer n place level bytes own at shows filled none =
    least_level_chooses (host_view_of s viewer) n level (Fragment place) (levels_of_directories viewer place level own.directory at) here before
  where
    v : HostViewMap
    v = host_view_of s viewer

    same : path_at level place.path.folder place.path.name ≡ own_path n level
    same = (λ i. path_at level (own.no_folder i) (own.name_is i))

    there : viewed_at v (own_path n level) ≡ Some (File bytes)
    there = ap (viewed_at v) (sym same) ∙ ap (option_and_then shown) (places_are_in_views s viewer place level at) ∙ shows

    its_own : own_place v n level ≡ place
    its_own = ap (viewed_place v) (sym same) ∙ what_is_viewed_there_is_its_own s viewer place level at

    fragment : (b : List ℕ) → b ≢ [] → content_says n n place (File b) ≡ Some (Fragment place)
    fragment [] some = absurd (some refl)
    fragment (b ∷ bs) some = refl

    here : says v n n level ≡ Some (Fragment place)
    here =
        ap (option_and_then (content_says n n (own_place v n level))) there
        ∙ ap (λ (p : PlaceParts). content_says n n p (File bytes)) its_own
        ∙ fragment bytes filled

    -- a place of a greater rank has a greater level
    in_directory : (other : PlaceParts) (k : ℕ) → level_for viewer other ≡ Some k → k < level → other.path.rank < 4
    in_directory other k is less = by (cases_lt other.path.rank 4)
      where
        by : (other.path.rank < 4) ⊎ (4 ≤ other.path.rank) → other.path.rank < 4
        by (inl within) = within
        by (inr beyond) =
            let directory = own.directory in
            let later = lesser_ranks_go_first viewer place other level k (omega (arith, beyond, directory)) at is in
            absurd (omega (arith, later, less))

    before : (k : ℕ) → k < level → says v n n k ≡ None
    before k less =
        ap (option_and_then (content_says n n (own_place v n k))) (nothing_viewed s viewer (own_path n k)
        (λ other is folder name.
        none other k (record { directory = in_directory other k is less; no_folder = folder; name_is = name }) is less))

pub other_hosts_dont_count : OtherHostsDontCount
other_hosts_dont_count s t viewer place none same n =
    let one = other_hosts_are_not_in_view s t viewer place none same in
    (ap (λ (v : HostViewMap). choice v n) one, ap (λ (v : HostViewMap). resolution v n) one)
