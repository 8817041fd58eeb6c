-- What is shown elsewhere affects no unit.
use Rattle.std.proofs.Common.{◌++◌, ◌↔◌, ◌∷◌, ◌≡◌, ◌⊎◌}
use Rattle.unit_loads.specs.Prelude.{[], ap, AreForOne, assignments_of, At, Bool, Candidate, Choice, choices_decide, Contains, Content, content_at, content_viewed, dirs_by, dirs_with, drop_in_paths_are_files, DropIns, ending, false, File, first_or_later, first_there, Folder, folders, folders_decide, folders_decide_over, fragments_are_in_view, HostViewMap, inl, inr, IsAmong, IsAmong-append_left, IsAmong-append_right, IsDropIn, IsDropInAt, IsLinked, IsOwnFile, IsTaken, later_there, Links, List, main, mains_decide, map, Name, name_dirs, None, notes_of, OfName, OfType, Option, own_paths_count, Owner, PathParts, PlaceParts, Profile, refl, refuses, Requires, Resolution, resolution, rows_of, same_place, same_Some, Search, settings_of, slice_get, Some, subst, suc, sym, true, type_dirs, viewed_at, viewed_place, Wants, zero, ℕ, ◌∙◌, has_defaults_by, mounts_by, with_implied}
use Rattle.unit_loads.specs.{WithoutFiles.{is_loaded_without_file}, declared.units.{Status.{Status, TheVariants.{Bad, BuiltIn, Loaded, Masked, NotFound}}, Unit.{Unit as LoadedUnit}}, Elsewhere.{IsNear, unit_folders}, Units.{AreDropIns, AreLinks, file_bytes, file_notes, files_with, fragment_by, HasAllOf, HasSettings, IsChoicesStatus, IsStatus, IsStatusBy, IsUnit, items_of, lists_with, setting_notes}}
use Rattle.fragment_choice.specs.declared.choices.Choice.TheVariants as choice
use Rattle.unit_loads.specs.declared.units.UnitNote.TheVariants as note

-- Views for one host that show the same at paths of one component and in a unit's folders have the same unit.
abbrev pub NearPathsDecide : Type 0
NearPathsDecide = (s t : HostViewMap) → AreForOne s t → (name : Name) (unit : LoadedUnit) → ((p : PathParts) → IsNear unit.names p → viewed_at s p ≡ viewed_at t p) → IsUnit s name unit → IsUnit t name unit

-- the element at a position of a list is a member of it
placed_among : (ds : List (List ℕ)) (i : ℕ) (d : List ℕ) → slice_get ds i ≡ Some d → IsAmong d ds
placed_among [] i d h = cc (h)
placed_among (x ∷ xs) zero d h = inl (same_Some _ _ h)
placed_among (x ∷ xs) (suc i) d h = inr (placed_among xs i d h)

-- the same files have the same bytes, and the same assignments and notes
module _ (s t : HostViewMap) where
  pub items_same : (files : List PlaceParts) → ((p : PlaceParts) → Contains files p → content_at s p ≡ content_at t p)
      → items_of s files ≡ items_of t files
  items_same [] same = refl
  items_same (p ∷ ps) same =
      ap (λ o. assignments_of (file_bytes o) ++ items_of s ps) (same p (first_there p ps))
      ∙ ap (λ xs. assignments_of (file_bytes (content_at t p)) ++ xs) (items_same ps (λ q c. same q (later_there p q ps c)))

  notes_same : (files : List PlaceParts) → ((p : PlaceParts) → Contains files p → content_at s p ≡ content_at t p)
      → file_notes s files ≡ file_notes t files
  notes_same [] same = refl
  notes_same (p ∷ ps) same =
      ap (λ o. map (note.File p) (notes_of (file_bytes o)) ++ file_notes s ps) (same p (first_there p ps))
      ∙ ap (λ xs. map (note.File p) (notes_of (file_bytes (content_at t p))) ++ xs) (notes_same ps (λ q c. same q (later_there p q ps c)))

-- both show the same at the place of a fragment, if there is one
abbrev pub ShowTheSame : HostViewMap → HostViewMap → Option PlaceParts → Type 0
ShowTheSame s t fragment = (p : PlaceParts) → fragment ≡ Some p → content_at s p ≡ content_at t p

-- both show the same in the folders of a unit with these names
abbrev pub AgreeInFolders : HostViewMap → HostViewMap → List Name → Type 0
AgreeInFolders s t names = (p : PathParts) → IsAmong p.folder (unit_folders names) → viewed_at s p ≡ viewed_at t p

-- what is seen at a path, and is the same in both, is the same at its place
pub same_content : (s t : HostViewMap) → AreForOne s t → (q : PathParts) (c : Content) → viewed_at s q ≡ Some c
    → viewed_at s q ≡ viewed_at t q
    → content_at s (viewed_place s q) ≡ content_at t (viewed_place s q)
same_content s t one q c is same =
    content_viewed s q c is ∙ sym (content_viewed t q c (sym same ∙ is)) ∙ ap (content_at t) (sym (same_place s t one q))

module _ (s t : HostViewMap) (one : AreForOne s t) (names : List Name) (inside : AgreeInFolders s t names) where
  -- a path in a folder of the unit shows the same
  shown_in : (ds : List (List ℕ)) → ((d : List ℕ) → IsAmong d ds → IsAmong d (unit_folders names))
      → (p : PathParts) (i : ℕ) → slice_get ds i ≡ Some p.folder → viewed_at s p ≡ viewed_at t p
  shown_in ds own p i f = inside p (own p.folder (placed_among ds i p.folder f))

  -- and the same file is taken there
  same_taken : (x : Search) (ds : List (List ℕ)) → ((d : List ℕ) → IsAmong d ds → IsAmong d (unit_folders names))
      → (c : Candidate) (p : PathParts) → IsTaken s x ds c p ↔ IsTaken t x ds c p
  same_taken x ds own c p = (folders_decide s t x ds (λ q i l f. shown_in ds own q i f) c p, folders_decide t s x ds (λ q i l f. sym (shown_in ds own q i f)) c p)

  drop_in_folder : (o : Owner) (d : List ℕ)
      → IsAmong d (dirs_by o (name_dirs (folders names)) (type_dirs (folders names))) → IsAmong d (unit_folders names)
  drop_in_folder OfName d h = IsAmong-append_left d (name_dirs (folders names)) _ h
  drop_in_folder OfType d h = IsAmong-append_right d (name_dirs (folders names)) _ (IsAmong-append_left d (type_dirs (folders names)) _ h)

  link_folder : (folder : Folder) (d : List ℕ) → IsAmong d (dirs_with (ending folder) (folders names)) → IsAmong d (unit_folders names)
  link_folder folder d h = IsAmong-append_right d (name_dirs (folders names)) _ (IsAmong-append_right d (type_dirs (folders names)) _ (by folder h))
    where
      by : (folder : Folder) → IsAmong d (dirs_with (ending folder) (folders names))
          → IsAmong d (dirs_with (ending Wants) (folders names) ++ dirs_with (ending Requires) (folders names))
      by Wants h = IsAmong-append_left d (dirs_with (ending Wants) (folders names)) _ h
      by Requires h = IsAmong-append_right d (dirs_with (ending Wants) (folders names)) _ h

  drop_in_folder_shown : (o : Owner) (p : PathParts) (i : ℕ)
      → slice_get (dirs_by o (name_dirs (folders names)) (type_dirs (folders names))) i ≡ Some p.folder
      → viewed_at s p ≡ viewed_at t p
  drop_in_folder_shown o p i f = shown_in (dirs_by o (name_dirs (folders names)) (type_dirs (folders names))) (drop_in_folder o) p i f

  same_drop_in : (p : PathParts) → IsDropIn s names p ↔ IsDropIn t names p
  same_drop_in p = (
    folders_decide_over s t DropIns (name_dirs (folders names)) (type_dirs (folders names)) (λ o q i l f. drop_in_folder_shown o q i f) (At p) p,
    folders_decide_over t s DropIns (name_dirs (folders names)) (type_dirs (folders names)) (λ o q i l f. sym (drop_in_folder_shown o q i f)) (At p) p,
  )

  same_drop_in_at : (p : PlaceParts) → IsDropInAt s names p ↔ IsDropInAt t names p
  same_drop_in_at p = (
    λ d. (d.0, sym (same_place s t one d.0) ∙ d.1, (same_drop_in d.0).0 d.2),
    λ d. (d.0, same_place s t one d.0 ∙ d.1, (same_drop_in d.0).1 d.2),
  )

  same_linked : (folder : Folder) (n : Name) → IsLinked s names folder n ↔ IsLinked t names folder n
  same_linked folder n = (
    λ h. record { name = h.name; path = h.path; name_is = h.name_is; taken = (same_taken Links (dirs_with (ending folder) (folders names)) (link_folder folder) (At h.path) h.path).0 h.taken },
    λ h. record { name = h.name; path = h.path; name_is = h.name_is; taken = (same_taken Links (dirs_with (ending folder) (folders names)) (link_folder folder) (At h.path) h.path).1 h.taken },
  )

  drop_in_shown : (p : PlaceParts) → IsDropInAt s names p → content_at s p ≡ content_at t p
  drop_in_shown p (q, is, d) =
      let file = (drop_in_paths_are_files s (folders names) q d).1 in
      ap (content_at s) (sym is)
      ∙ same_content s t one q (File (file.0 ∷ file.1)) file.2 (drop_in_folder_shown d.owner q d.place d.stands.folder_is)
      ∙ ap (content_at t) is

  -- the files of the unit show the same if its fragment does
  files_shown : (fragment : Option PlaceParts) (dropins : List PlaceParts) → ShowTheSame s t fragment
      → AreDropIns s names dropins → (p : PlaceParts) → Contains (files_with fragment dropins) p → content_at s p ≡ content_at t p
  files_shown None dropins own are p c = drop_in_shown p ((are.exact p).0 c)
  files_shown (Some fragment) dropins own are p c = by (first_or_later fragment p dropins c)
    where
      by : (fragment ≡ p) ⊎ Contains dropins p → content_at s p ≡ content_at t p
      by (inl e) = own p (ap Some e)
      by (inr d) = drop_in_shown p ((are.exact p).0 d)

-- a unit has the same settings in both, which have one profile, where its drop-ins and links are the same, and its files
-- show the same
module _ (s t : HostViewMap) (profile : s.profile ≡ t.profile) (unit : LoadedUnit) (fragment : Option PlaceParts)
    (drop_ins : (p : PlaceParts) → IsDropInAt s unit.names p ↔ IsDropInAt t unit.names p)
    (links : (folder : Folder) (n : Name) → IsLinked s unit.names folder n ↔ IsLinked t unit.names folder n)
    (files : (p : PlaceParts) → Contains (files_with fragment unit.dropins) p → content_at s p ≡ content_at t p) where
  linked_too : (folder : Folder) (named : List Name) → AreLinks s unit.names folder named → AreLinks t unit.names folder named
  linked_too folder named are = record {
    ascending = are.ascending;
    exact = λ n. (λ c. (links folder n).0 ((are.exact n).0 c), λ h. (are.exact n).1 ((links folder n).1 h));
  }

  pub settings_too : HasSettings s fragment unit → HasSettings t fragment unit
  settings_too h =
      let all = files_with fragment unit.dropins in
      let there = items_of t all in
      let items : items_of s all ≡ there = items_same s t all files in
      record {
        dropins_are = record {
          ascending = h.dropins_are.ascending;
          exact = λ p. (λ c. (drop_ins p).0 ((h.dropins_are.exact p).0 c), λ d. (h.dropins_are.exact p).1 ((drop_ins p).1 d));
        };
        links = h.links;
        links_are = record {
          wanted_are = linked_too Wants h.links.wanted h.links_are.wanted_are;
          required_are = linked_too Requires h.links.required h.links_are.required_are;
        };
        values_are =
            h.values_are ∙ ap (λ xs. rows_of s.profile (settings_of s.profile xs) unit.name) items
            ∙ ap (λ by. rows_of by (settings_of by there) unit.name) profile;
        deps_are =
            h.deps_are ∙ ap (λ xs. with_implied s.profile unit.name unit.values (lists_with s.profile (settings_of s.profile xs) unit.name h.links)) items
            ∙ ap (λ by. with_implied by unit.name unit.values (lists_with by (settings_of by there) unit.name h.links)) profile;
        notes_are =
            h.notes_are
            ∙ ap (λ ns. ns ++ map note.Setting (setting_notes s.profile (items_of s all) unit.name h.links)) (notes_same s t all files)
            ∙ ap (λ xs. file_notes t all ++ map note.Setting (setting_notes s.profile xs unit.name h.links)) items
            ∙ ap (λ by. file_notes t all ++ map note.Setting (setting_notes by there unit.name h.links)) profile;
        manual_is =
            h.manual_is ∙ ap (λ xs. refuses (settings_of s.profile xs)) items ∙ ap (λ by. refuses (settings_of by there)) profile;
        defaults_are = h.defaults_are ∙ ap (λ by. has_defaults_by by unit.name unit.values) profile;
        mounts_are = h.mounts_are ∙ ap (λ by. mounts_by by unit.name unit.values) profile;
      }

module _ (s t : HostViewMap) (one : AreForOne s t) (unit : LoadedUnit) (inside : AgreeInFolders s t unit.names) where
  settings_same : (fragment : Option PlaceParts) → ShowTheSame s t fragment → HasSettings s fragment unit → HasSettings t fragment unit
  settings_same fragment own h =
      settings_too s t one.1 unit fragment (same_drop_in_at s t one unit.names inside) (same_linked s t one unit.names inside)
      (files_shown s t one unit.names inside fragment unit.dropins own h.dropins_are) h

  -- a unit has the same in both if its fragment is the same and so is what is seen in its folders
  pub all_same : (status : Status) → ShowTheSame s t (fragment_by status) → HasAllOf s unit status → HasAllOf t unit status
  all_same (Loaded fragment) own h = settings_same (Some fragment) own h
  all_same BuiltIn own h = settings_same None own h
  all_same NotFound own h = h
  all_same Masked own h = h
  all_same (Bad cause) own h = h

-- the status of a unit with its fragment at a place comes from the choice of that place
pub chosen : (profile : Profile) (unit : Name) (c : Choice) (status : Status) (fragment : PlaceParts) → IsStatus profile unit c status
    → fragment_by status ≡ Some fragment → c ≡ choice.Fragment fragment
chosen profile unit c status fragment h e = by (is_loaded_without_file profile unit c) h
  where
    of_choice : (c : Choice) → IsChoicesStatus c status → c ≡ choice.Fragment fragment
    of_choice choice.NotFound h = cc (sym (ap fragment_by h) ∙ e)
    of_choice choice.Masked h = cc (sym (ap fragment_by h) ∙ e)
    of_choice (choice.Fragment place) h = ap choice.Fragment (same_Some _ _ (sym (ap fragment_by h) ∙ e))
    of_choice (choice.Alias other) h = absurd h
    of_choice (choice.Bad cause) h = cc (sym (ap fragment_by h) ∙ e)

    by : (without_file : Bool) → IsStatusBy without_file c status → c ≡ choice.Fragment fragment
    by true h = cc (sym (ap fragment_by h) ∙ e)
    by false h = of_choice c h

-- a file at a path of one component is the same, where near paths show the same
own_file_shown : (s t : HostViewMap) → AreForOne s t → (names : List Name)
    → ((p : PathParts) → IsNear names p → viewed_at s p ≡ viewed_at t p)
    → (p : PlaceParts) → IsOwnFile s p → content_at s p ≡ content_at t p
own_file_shown s t one names near p (q, is, own, b, bs, file) =
    ap (content_at s) (sym is) ∙ same_content s t one q (File (b ∷ bs)) file (near q (inl own)) ∙ ap (content_at t) is

pub near_paths_decide : NearPathsDecide
near_paths_decide s t one name unit near u =
    let resolved : (n : Name) → resolution s n ≡ resolution t n = choices_decide s t (own_paths_count s t one (λ p f. near p (inl f))) in
    let mains : (n : Name) → main s n ≡ main t n = λ n. ap (λ (r : Resolution). r.main) (resolved n) in
    record {
      main_is = sym (mains name) ∙ u.main_is;
      name_is = u.name_is;
      names_are = mains_decide s t mains name unit.names u.names_are;
      status_is =
          subst (λ (by : Profile). IsStatus by name (resolution t name).choice unit.status) one.1
          (subst (λ (r : Resolution). IsStatus s.profile name r.choice unit.status) (resolved name) u.status_is);
      has =
          all_same s t one unit (λ p h. near p (inr h)) unit.status
          (λ fragment e. own_file_shown s t one unit.names near fragment
          (fragments_are_in_view s name fragment (chosen s.profile name (resolution s name).choice unit.status fragment u.status_is e)))
          u.has;
    }
