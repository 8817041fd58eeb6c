-- Laws of units: where main names, names and fragments are the same in a tree, and a unit's drop-ins and links agree by file
-- name and content, the tree has the same unit.
use Rattle.std.proofs.Common.{◌++◌, ◌∷◌, ◌≡◌, ◌⊎◌}
use Rattle.section_reader.specs.declared.assignments.Note.{Note}
use Rattle.setting_rules.specs.declared.notes.SettingNote.{SettingNote}
use Rattle.tree_answers.specs.Prelude.{[], ap, AreNames, assignments_of, Bool, bytes_at, Choice, choice, choice_at_fleet, chosen_by, contains_from_among, Content, content_at, ends_at, EntryMap, false, file_bytes, file_name, file_notes, Files, files_with, flat_map, Fleet, fragment_by, goes_on, has_defaults_by, HasAllOf, HasNothing, HasSettings, HostViewMap, host_view_of, inl, is_loaded_without_file, IsChoicesStatus, IsName, IsStatus, IsStatusBy, IsUnit, items_of, List, lists_with, LoadedUnit, main, Manager, map, map-append, mounts_by, Name, None, notes_at, notes_of, of_fleet, Option, PlaceParts, Profile, ReadsAlike, refl, refuses, Requires, Resolution, resolution, resolution_at_fleet, resolution_resolves, Resolves, rows_of, settings_of, setting_notes, ShowsTree, Some, Status, subst, sym, TreesHaveTheSameFragments, TreesNameAlike, TreesResolveAlike, true, UnitNote, Viewer, Wants, with_implied, within, ℕ, ◌∙◌}
use Rattle.tree_answers.specs.{Alike.{AreSameUnits, said, status_at_fleet}, DropInLaws.{Counterparts, counterparts, drop_ins_there, links_there}}
use Rattle.fragment_choice.specs.declared.choices.Choice.TheVariants as chosen
use Rattle.unit_loads.specs.declared.units.Status.TheVariants as status
use Rattle.unit_loads.specs.declared.units.UnitNote.TheVariants as note

-- ---- files with the same contents

items_by_contents : (s : HostViewMap) (ps : List PlaceParts)
    → items_of s ps ≡ flat_map (λ o. assignments_of (file_bytes o)) (map (content_at s) ps)
items_by_contents s [] = refl
items_by_contents s (p ∷ ps) = ap (λ xs. assignments_of (bytes_at s p) ++ xs) (items_by_contents s ps)

-- They have the same assignments.
items_alike : (v w : HostViewMap) (ps qs : List PlaceParts) → map (content_at w) qs ≡ map (content_at v) ps
    → items_of w qs ≡ items_of v ps
items_alike v w ps qs same =
    items_by_contents w qs ∙ ap (flat_map (λ o. assignments_of (file_bytes o))) same ∙ sym (items_by_contents v ps)

-- what notes on files with these names and contents say
notes_by : List (List ℕ) → List (Option Content) → List ((List ℕ × Note) ⊎ SettingNote)
notes_by [] contents = []
notes_by (f ∷ files) [] = []
notes_by (f ∷ files) (o ∷ contents) = map (λ n. inl (f, n)) (notes_of (file_bytes o)) ++ notes_by files contents

said_of_file : (p : PlaceParts) (ns : List Note) → map said (map (note.File p) ns) ≡ map (λ n. inl (file_name p, n)) ns
said_of_file p [] = refl
said_of_file p (n ∷ ns) = ap (λ (l : List ((List ℕ × Note) ⊎ SettingNote)). inl (file_name p, n) ∷ l) (said_of_file p ns)

said_by_contents : (s : HostViewMap) (ps : List PlaceParts)
    → map said (file_notes s ps) ≡ notes_by (map file_name ps) (map (content_at s) ps)
unfolding notes_by
said_by_contents s [] = refl
said_by_contents s (p ∷ ps) =
    map-append said (notes_at s p) (file_notes s ps)
    ∙ (λ i. said_of_file p (notes_of (bytes_at s p)) i ++ said_by_contents s ps i)

-- If they have the same names too, their notes say the same.
notes_alike : (v w : HostViewMap) (ps qs : List PlaceParts) → map file_name qs ≡ map file_name ps
    → map (content_at w) qs ≡ map (content_at v) ps → map said (file_notes w qs) ≡ map said (file_notes v ps)
notes_alike v w ps qs names same =
    said_by_contents w qs ∙ (λ i. notes_by (names i) (same i)) ∙ sym (said_by_contents v ps)

-- ---- choices

-- The fragment that a main name resolves to is that of its choice.
fragment_chosen : (s : HostViewMap) (n : Name) (p : PlaceParts) → main s n ≡ n → (resolution s n).choice ≡ chosen.Fragment p
    → choice s n ≡ chosen.Fragment p
fragment_chosen s n p own e = by (resolution s n) own (resolution_resolves s n) e
  where
    by : (r : Resolution) → r.main ≡ n → Resolves s n r → r.choice ≡ chosen.Fragment p → choice s n ≡ chosen.Fragment p
    by r own (ends_at k u short chain ends) e = ap (choice s) (sym own) ∙ e
    by r own (goes_on u chain) e = cc (e)

-- whether a unit is loaded without a file doesn't depend on places
pub same_without_file : (profile : Profile) (n : Name) (c : Choice)
    → is_loaded_without_file profile n (choice_at_fleet c) ≡ is_loaded_without_file profile n c
same_without_file Files n c = refl
same_without_file Manager n chosen.NotFound = refl
same_without_file Manager n chosen.Masked = refl
same_without_file Manager n (chosen.Fragment place) = refl
same_without_file Manager n (chosen.Alias other) = refl
same_without_file Manager n (chosen.Bad cause) = refl

of_choice : (c : Choice) (x : Status) → IsChoicesStatus c x → IsChoicesStatus (choice_at_fleet c) (status_at_fleet x)
of_choice chosen.NotFound x h = ap status_at_fleet h
of_choice chosen.Masked x h = ap status_at_fleet h
of_choice (chosen.Fragment place) x h = ap status_at_fleet h
of_choice (chosen.Alias other) x h = absurd h
of_choice (chosen.Bad cause) x h = ap status_at_fleet h

status_by : (without_file : Bool) (c : Choice) (x : Status) → IsStatusBy without_file c x
    → IsStatusBy without_file (choice_at_fleet c) (status_at_fleet x)
status_by true c x h = ap status_at_fleet h
status_by false c x h = of_choice c x h

status_there : (profile : Profile) (n : Name) (c : Choice) (x : Status) → IsStatus profile n c x
    → IsStatus profile n (choice_at_fleet c) (status_at_fleet x)
status_there profile n c x h =
    subst (λ (b : Bool). IsStatusBy b (choice_at_fleet c) (status_at_fleet x)) (sym (same_without_file profile n c))
    (status_by (is_loaded_without_file profile n c) c x h)

-- ---- the unit in the tree

module _ (v w : HostViewMap) (profile : v.profile ≡ w.profile) (name : Name) (u : LoadedUnit) (is : IsUnit v name u)
    (alike : ReadsAlike v w u.names)
    (resolved : resolution w name ≡ resolution_at_fleet (resolution v name)) (named : AreNames w name u.names)
    (shown : (p : PlaceParts) → choice v name ≡ chosen.Fragment p → content_at w (within Fleet p.path) ≡ content_at v p) where
  main_there : main w name ≡ name
  main_there = ap (λ (r : Resolution). r.main) resolved ∙ is.main_is

  status_over : (x : Status) → u.status ≡ x → IsStatus w.profile name (resolution w name).choice (status_at_fleet x)
  status_over x e =
      subst (λ (by : Profile). IsStatus by name (resolution w name).choice (status_at_fleet x)) profile
      (subst (λ (r : Resolution). IsStatus v.profile name r.choice (status_at_fleet x)) (sym resolved)
      (status_there v.profile name (resolution v name).choice x (subst (IsStatus v.profile name (resolution v name).choice) e is.status_is)))

  abbrev SameUnit : Type 0
  SameUnit = (t : LoadedUnit) × IsUnit w name t × AreSameUnits v w u t

  -- one that isn't loaded has nothing
  bare : (x : Status) → u.status ≡ x → HasNothing u → ((t : LoadedUnit) → HasNothing t → HasAllOf w t (status_at_fleet x)) → SameUnit
  bare x e none has =
      let t : LoadedUnit = record u { status = status_at_fleet x } in
      let nothing : HasNothing t =
      record {
        no_dropins = none.no_dropins;
        no_values = none.no_values;
        no_deps = none.no_deps;
        no_notes = none.no_notes;
        not_manual = none.not_manual;
        no_defaults = none.no_defaults;
        no_mounts = none.no_mounts;
      } in (
        t,
        record { main_is = main_there; name_is = is.name_is; names_are = named; status_is = status_over x e; has = has t nothing },
        record {
          name_is = refl;
          names_are = refl;
          status_is = ap status_at_fleet (sym e);
          files_are = refl;
          contents_are = ap (map (content_at w)) none.no_dropins ∙ sym (ap (map (content_at v)) none.no_dropins);
          values_are = refl;
          deps_are = refl;
          notes_are = refl;
          manual_is = refl;
          defaults_are = refl;
          mounts_are = refl;
        },
      )

  -- a fragment at the fleet's place of the same path
  abbrev moved : Option PlaceParts → Option PlaceParts
  moved None = None
  moved (Some p) = Some (within Fleet p.path)

  abbrev IsShownToo : Option PlaceParts → Type 0
  IsShownToo fragment = (p : PlaceParts) → fragment ≡ Some p → content_at w (within Fleet p.path) ≡ content_at v p

  -- files with such a fragment have the contents and the file names that they had
  contents_with : (fragment : Option PlaceParts) → IsShownToo fragment → (places dropins : List PlaceParts)
      → map (content_at w) places ≡ map (content_at v) dropins
      → map (content_at w) (files_with (moved fragment) places) ≡ map (content_at v) (files_with fragment dropins)
  contents_with None shows places dropins same = same
  contents_with (Some p) shows places dropins same = (λ i. shows p refl i ∷ same i)

  names_with : (fragment : Option PlaceParts) (places dropins : List PlaceParts) → map file_name places ≡ map file_name dropins
      → map file_name (files_with (moved fragment) places) ≡ map file_name (files_with fragment dropins)
  names_with None places dropins same = same
  names_with (Some p) places dropins same = (λ i. file_name p ∷ same i)

  -- one that is loaded has its fragment, if it has one, and its drop-ins, place for place
  module _ (x : Status) (e : u.status ≡ x) (fragment : Option PlaceParts) (shows : IsShownToo fragment) (h : HasSettings v fragment u) where
    found : Counterparts v w u.names u.dropins
    found =
        counterparts v w u.names (λ file x. (alike.drop_ins file x).0) u.dropins
        (λ p among. (h.dropins_are.exact p).0 (contains_from_among p u.dropins among))

    abbrev files : List PlaceParts
    files = files_with (moved fragment) found.places

    abbrev own : List PlaceParts
    own = files_with fragment u.dropins

    contents : map (content_at w) files ≡ map (content_at v) own
    contents = contents_with fragment shows found.places u.dropins found.contents_are

    file_names : map file_name files ≡ map file_name own
    file_names = names_with fragment found.places u.dropins found.files_are

    items : items_of w files ≡ items_of v own
    items = items_alike v w own files contents

    abbrev on_settings : List UnitNote
    on_settings = map note.Setting (setting_notes v.profile (items_of v own) u.name h.links)

    abbrev made : LoadedUnit
    made = record u { status = status_at_fleet x; dropins = found.places; notes = file_notes w files ++ on_settings }

    settings : HasSettings w (moved fragment) made
    settings = record {
      dropins_are = drop_ins_there v w u.names alike u.dropins h.dropins_are found;
      links = h.links;
      links_are = record {
        wanted_are = links_there v w u.names alike Wants h.links.wanted h.links_are.wanted_are;
        required_are = links_there v w u.names alike Requires h.links.required h.links_are.required_are;
      };
      values_are =
          h.values_are ∙ ap (λ xs. rows_of v.profile (settings_of v.profile xs) u.name) (sym items)
          ∙ ap (λ by. rows_of by (settings_of by (items_of w files)) u.name) profile;
      deps_are =
          h.deps_are ∙ ap (λ xs. with_implied v.profile u.name u.values (lists_with v.profile (settings_of v.profile xs) u.name h.links)) (sym items)
          ∙ ap (λ by. with_implied by u.name u.values (lists_with by (settings_of by (items_of w files)) u.name h.links)) profile;
      notes_are =
          ap (λ xs. file_notes w files ++ map note.Setting (setting_notes v.profile xs u.name h.links)) (sym items)
          ∙ ap (λ by. file_notes w files ++ map note.Setting (setting_notes by (items_of w files) u.name h.links)) profile;
      manual_is =
          h.manual_is ∙ ap (λ xs. refuses (settings_of v.profile xs)) (sym items)
          ∙ ap (λ by. refuses (settings_of by (items_of w files))) profile;
      defaults_are = h.defaults_are ∙ ap (λ by. has_defaults_by by u.name u.values) profile;
      mounts_are = h.mounts_are ∙ ap (λ by. mounts_by by u.name u.values) profile;
    }

    same_notes : map said (file_notes w files ++ on_settings) ≡ map said u.notes
    same_notes =
        map-append said (file_notes w files) on_settings
        ∙ ap (λ ns. ns ++ map said on_settings) (notes_alike v w own files file_names contents)
        ∙ sym (map-append said (file_notes v own) on_settings)
        ∙ ap (map said) (sym h.notes_are)

    loaded : HasAllOf w made (status_at_fleet x) → SameUnit
    loaded has = (
      made,
      record {
        main_is = main_there;
        name_is = is.name_is;
        names_are = named;
        status_is = status_over x e;
        has = has;
      },
      record {
        name_is = refl;
        names_are = refl;
        status_is = ap status_at_fleet (sym e);
        files_are = found.files_are;
        contents_are = found.contents_are;
        values_are = refl;
        deps_are = refl;
        notes_are = same_notes;
        manual_is = refl;
        defaults_are = refl;
        mounts_are = refl;
      },
    )

  -- what is shown at the fragment is shown in the tree
  shown_too : (x : Status) → u.status ≡ x → IsShownToo (fragment_by x)
  shown_too x e p f =
      shown p (fragment_chosen v name p is.main_is (chosen_by v.profile name (resolution v name).choice u.status p is.status_is (ap fragment_by e ∙ f)))

  same_by : (x : Status) → u.status ≡ x → HasAllOf v u x → SameUnit
  same_by (status.Loaded fragment) e h =
      let x = status.Loaded fragment in
      loaded x e (Some fragment) (shown_too x e) h (settings x e (Some fragment) (shown_too x e) h)
  same_by status.BuiltIn e h =
      loaded status.BuiltIn e None (shown_too status.BuiltIn e) h (settings status.BuiltIn e None (shown_too status.BuiltIn e) h)
  same_by status.NotFound e h = bare status.NotFound e h (λ t n. n)
  same_by status.Masked e h = bare status.Masked e h (λ t n. n)
  same_by (status.Bad cause) e h = bare (status.Bad cause) e h (λ t n. n)

  pub same_unit : SameUnit
  same_unit = same_by u.status refl is.has

-- A unit is the same in the tree, where its drop-ins and links agree.
pub unit_in_tree : TreesResolveAlike → TreesNameAlike → TreesHaveTheSameFragments → (s t : EntryMap) (viewer : Viewer)
    → ShowsTree t s viewer.host
    → (name : Name) → IsName name → (unit : LoadedUnit) → IsUnit (host_view_of s viewer) name unit
    → ReadsAlike (host_view_of s viewer) (host_view_of t (of_fleet viewer.profile)) unit.names
    → (other : LoadedUnit) × IsUnit (host_view_of t (of_fleet viewer.profile)) name other
    × AreSameUnits (host_view_of s viewer) (host_view_of t (of_fleet viewer.profile)) unit other
unit_in_tree resolves names fragments s t viewer shows name good unit is alike =
    same_unit (host_view_of s viewer) (host_view_of t (of_fleet viewer.profile)) refl name unit is alike (resolves s t viewer shows name good)
    ((names s t viewer shows name unit.names).0 is.names_are) (λ p e. fragments s t viewer shows name good p e)
