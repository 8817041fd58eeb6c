-- Laws of what there is: a unit has a list of its drop-ins, and lists of the names that its links give; so a loaded main name with a
-- list of its names has a unit.
use Rattle.std.proofs.Common.{◌&&◌, ◌++◌, ◌∷◌, ◌≡◌, ◌⊎◌}
use Rattle.tree_answers.specs.Prelude.{[], among_filter, among_from_contains, among_map, and_from, and_parts, ap, AreDropIns, AreLinks, AreNames, as_found, At, Bool, Candidate, contains_from_among, Content, dirs_with, DropIns, ending, Entry, false, file_name, file_notes, files_with, filter, filter_among, find_among, Folder, folders, found_iff_taken, found_is_taken, found_name, fragment_by, has_defaults_by, HasAllOf, HasSettings, HostViewMap, inl, inr, in_byte_order, is_loaded_by, IsAmong, IsDropInAt, IsDropInOf, IsLinked, IsLoadedFrom, IsStrictlySortedBy, IsTaken, IsTakenOver, IsTrue, IsUnit, is_name, items_of, Links, List, lists_with, LoadedUnit, main, map, map_among, Mask, mounts_by, Name, names_ascend, names_or_else_types, names_stay, name_cmp, name_dirs, None, NoneStands, none_stands, Option, option_and_then, option_or, PathParts, path_cmp, path_cmp-IsAntisymmetric, PlaceParts, refl, refuses, Requires, rows_of, Search, settings_in, setting_notes, shown, Some, Status, subst, sym, taken, true, type_dirs, view, viewed_at, viewed_place, Wants, with_implied, ℕ, ◌∙◌}
use Rattle.tree_answers.specs.DropInLaws.{of_each, one_of_name}
use Rattle.std.specs.FinMap as finmap
use Rattle.unit_loads.specs.declared.units.Status.TheVariants as status
use Rattle.unit_loads.specs.declared.units.UnitNote.TheVariants as note

-- ---- file names

-- the last components of all paths that have an entry
abbrev seen_names : HostViewMap → List (List ℕ)
seen_names v = map (λ (e : PathParts × Entry). e.0.name) (finmap.entries (view v))

-- What is visible has its file name among them.
name_seen : (v : HostViewMap) (p : PathParts) (o : Option Content) → viewed_at v p ≡ o → (o ≡ None → ⊥) → IsAmong p.name (seen_names v)
name_seen v p o at some = by (finmap.get (view v) p) refl
  where
    by : (e : Option Entry) → finmap.get (view v) p ≡ e → IsAmong p.name (seen_names v)
    by None f = absurd (some (sym at ∙ ap (option_and_then shown) f))
    by (Some e) f =
        map_among (λ (x : PathParts × Entry). x.0.name) (finmap.entries (view v)) (p, e)
        (find_among path_cmp path_cmp-IsAntisymmetric p (finmap.entries (view v)) e (sym (finmap.get-entries (view v) p) ∙ f))

-- So has each candidate.
candidate_seen : (v : HostViewMap) (x : Search) (p q : PathParts) → option_and_then (as_found x p) (viewed_at v p) ≡ Some (At q)
    → IsAmong p.name (seen_names v)
candidate_seen v x p q h =
    name_seen v p (viewed_at v p) refl
    (λ none. let wrong : None ≡ Some (At q) = sym (ap (option_and_then (as_found x p)) none) ∙ h in cc (wrong))

-- whether a candidate gives a path
abbrev is_at : Option Candidate → Bool
is_at None = false
is_at (Some Mask) = false
is_at (Some (At p)) = true

path_at_it : (o : Option Candidate) → is_at o ≡ true → (p : PathParts) × (o ≡ Some (At p))
path_at_it None h = cc (h)
path_at_it (Some Mask) h = cc (h)
path_at_it (Some (At p)) h = (p, refl)

-- ---- links

module _ (v : HostViewMap) (names : List Name) (folder : Folder) where
  abbrev link_dirs : List (List ℕ)
  link_dirs = dirs_with (ending folder) (folders names)

  is_link : List ℕ → Bool
  is_link f = is_name f && is_at (taken v Links link_dirs f)

  link_from : (n : Name) → is_link n ≡ true → IsLinked v names folder n
  unfolding is_link
  link_from n h =
      let parts = and_parts (is_name n) (is_at (taken v Links link_dirs n)) h in
      let at = path_at_it (taken v Links link_dirs n) parts.1 in
      let same = found_name v Links link_dirs n at.0 at.1 in
      record {
        name = parts.0;
        path = at.0;
        name_is = same;
        taken = (found_iff_taken v Links link_dirs at.0).0 (ap (taken v Links link_dirs) same ∙ at.1);
      }

  link_to : (n : Name) → IsLinked v names folder n → is_link n ≡ true
  unfolding is_link
  link_to n l =
      let found : taken v Links link_dirs n ≡ Some (At l.path) =
      ap (taken v Links link_dirs) (sym l.name_is) ∙ (found_iff_taken v Links link_dirs l.path).1 l.taken in
      and_from (is_name n) (is_at (taken v Links link_dirs n)) l.name (ap is_at found)

  link_seen : (n : Name) → IsLinked v names folder n → IsAmong n (seen_names v)
  link_seen n l =
      subst (λ (f : List ℕ). IsAmong f (seen_names v)) l.name_is (candidate_seen v Links l.path l.path l.taken.stands.says)

  abbrev link_list : List Name
  link_list = filter is_link (seen_names v)

  pub links_exist : (links : List Name) × AreLinks v names folder links
  links_exist = (
    in_byte_order link_list,
    record {
      ascending = names_ascend link_list;
      exact = λ n. (
        λ c. link_from n (among_filter is_link (seen_names v) n (among_from_contains n link_list ((names_stay link_list n).0 c))).1,
        λ l. (names_stay link_list n).1
            (contains_from_among n link_list (filter_among is_link (seen_names v) n (link_seen n l) (link_to n l))),
      );
    },
  )

-- ---- drop-ins

module _ (v : HostViewMap) (x : Search) (ds ts : List (List ℕ)) where
  -- what is taken for a file name in the folders of names, or else in those of types
  abbrev taken_over : List ℕ → Option Candidate
  taken_over f = option_or (taken v x ds f) (taken v x ts f)

  nothing_there : (f : List ℕ) → taken v x ds f ≡ None → NoneStands v x ds f
  nothing_there f h d q i st e = none_stands v x ds f h d q i st e

  over_from : (p : PathParts) → taken_over p.name ≡ Some (At p) → IsTakenOver v x ds ts (At p) p
  over_from p e = by (taken v x ds p.name) refl e
    where
      by : (o : Option Candidate) → taken v x ds p.name ≡ o → option_or o (taken v x ts p.name) ≡ Some (At p)
          → IsTakenOver v x ds ts (At p) p
      by None h e =
          (names_or_else_types v x ds ts (At p) p).1
          (inr ((found_iff_taken v x ts p).0 e, nothing_there p.name h))
      by (Some c) h e = (names_or_else_types v x ds ts (At p) p).1 (inl ((found_iff_taken v x ds p).0 (h ∙ e)))

  over_to : (p : PathParts) → IsTakenOver v x ds ts (At p) p → taken_over p.name ≡ Some (At p)
  over_to p t = by ((names_or_else_types v x ds ts (At p) p).0 t)
    where
      none : NoneStands v x ds p.name → (o : Option Candidate) → taken v x ds p.name ≡ o → o ≡ None
      none nothing None h = refl
      none nothing (Some c) h =
          let f = found_is_taken v x ds p.name c h in
          absurd (nothing c f.path f.taken.place f.taken.stands f.name_is)

      by : IsTaken v x ds (At p) p ⊎ (IsTaken v x ts (At p) p × NoneStands v x ds p.name) → taken_over p.name ≡ Some (At p)
      by (inl a) = ap (λ o. option_or o (taken v x ts p.name)) ((found_iff_taken v x ds p).1 a)
      by (inr b) =
          ap (λ o. option_or o (taken v x ts p.name)) (none b.1 (taken v x ds p.name) refl) ∙ (found_iff_taken v x ts p).1 b.0

  -- what is found over both has the file name
  over_name : (f : List ℕ) (p : PathParts) → taken_over f ≡ Some (At p) → p.name ≡ f
  over_name f p e = by (taken v x ds f) refl e
    where
      by : (o : Option Candidate) → taken v x ds f ≡ o → option_or o (taken v x ts f) ≡ Some (At p) → p.name ≡ f
      by None h e = found_name v x ts f p e
      by (Some c) h e = found_name v x ds f p (h ∙ e)

module _ (v : HostViewMap) (names : List Name) where
  abbrev over : List ℕ → Option Candidate
  over f = taken_over v DropIns (name_dirs (folders names)) (type_dirs (folders names)) f

  -- drop-ins with these file names
  record AreFor (files : List (List ℕ)) : Type 0 where
    places : List PlaceParts
    files_are : map file_name places ≡ files
    there : (p : PlaceParts) → IsAmong p places → IsDropInAt v names p

  drop_in_for : (f : List ℕ) → is_at (over f) ≡ true → (p : PlaceParts) × (file_name p ≡ f) × IsDropInAt v names p
  drop_in_for f h =
      let at = path_at_it (over f) h in
      let same = over_name v DropIns (name_dirs (folders names)) (type_dirs (folders names)) f at.0 at.1 in
      let found = over_from v DropIns (name_dirs (folders names)) (type_dirs (folders names)) at.0 (ap over same ∙ at.1) in
      (viewed_place v at.0, same, (at.0, refl, found))

  all_for : (files : List (List ℕ)) → ((f : List ℕ) → IsAmong f files → is_at (over f) ≡ true) → AreFor files
  all_for [] h = record { places = []; files_are = refl; there = λ p among. absurd among }
  all_for (f ∷ files) h =
      let first = drop_in_for f (h f (inl refl)) in
      let rest = all_for files (λ g among. h g (inr among)) in
      record {
        places = first.0 ∷ rest.places;
        files_are = (λ i. first.1 i ∷ rest.files_are i);
        there = of_each (IsDropInAt v names) first.0 rest.places first.2 rest.there;
      }

  abbrev unsorted : List (List ℕ)
  unsorted = filter (λ f. is_at (over f)) (seen_names v)

  file_from : (f : List ℕ) → IsAmong f (in_byte_order unsorted) → is_at (over f) ≡ true
  file_from f h =
      (among_filter (λ g. is_at (over g)) (seen_names v) f
      (among_from_contains f unsorted ((names_stay unsorted f).0 (contains_from_among f (in_byte_order unsorted) h)))).1

  file_to : (p : PathParts) → IsDropInOf v (folders names) p → IsAmong p.name (in_byte_order unsorted)
  file_to p d =
      let found = over_to v DropIns (name_dirs (folders names)) (type_dirs (folders names)) p d in
      let among =
      filter_among (λ g. is_at (over g)) (seen_names v) p.name (candidate_seen v DropIns p p d.stands.says) (ap is_at found) in
      among_from_contains p.name (in_byte_order unsorted) ((names_stay unsorted p.name).1 (contains_from_among p.name unsorted among))

  pub drop_ins_exist : (dropins : List PlaceParts) × AreDropIns v names dropins
  drop_ins_exist = (all.places, are)
    where
      all : AreFor (in_byte_order unsorted)
      all = all_for (in_byte_order unsorted) file_from

      listed : (p : PlaceParts) → IsDropInAt v names p → IsAmong p all.places
      listed p (q, is, d) =
          let there = subst (IsAmong q.name) (sym all.files_are) (file_to q d) in
          let found = among_map file_name all.places q.name there in
          let same = one_of_name v names found.source p (all.there found.source found.there) (q, is, d) (found.makes ∙ ap file_name is) in
          subst (λ (r : PlaceParts). IsAmong r all.places) same found.there

      are : AreDropIns v names all.places
      are = record {
        ascending = subst (IsStrictlySortedBy name_cmp) (sym all.files_are) (names_ascend unsorted);
        exact = λ p. (
          λ c. all.there p (among_from_contains p all.places c),
          λ d. contains_from_among p all.places (listed p d),
        );
      }

-- ---- units

-- a unit with this status has all of it, if it has the settings of its fragment
has_all : (v : HostViewMap) (unit : LoadedUnit) (x : Status) (fragment : Option PlaceParts) → fragment_by x ≡ fragment
    → IsTrue (is_loaded_by x)
    → HasSettings v fragment unit → HasAllOf v unit x
has_all v unit (status.Loaded place) fragment e loaded h = subst (λ (f : Option PlaceParts). HasSettings v f unit) (sym e) h
has_all v unit status.BuiltIn fragment e loaded h = subst (λ (f : Option PlaceParts). HasSettings v f unit) (sym e) h
has_all v unit status.NotFound fragment e loaded h = cc (loaded)
has_all v unit status.Masked fragment e loaded h = cc (loaded)
has_all v unit (status.Bad cause) fragment e loaded h = cc (loaded)

-- A main name that is loaded has a unit, if there is a list of its names.
pub unit_exists : (v : HostViewMap) (n : Name) (names : List Name) (fragment : Option PlaceParts) → main v n ≡ n → AreNames v n names
    → IsLoadedFrom v n fragment → (u : LoadedUnit) × IsUnit v n u
unit_exists v n names fragment own are from =
    let dropins = drop_ins_exist v names in
    let wanted = links_exist v names Wants in
    let required = links_exist v names Requires in
    made dropins.0 dropins.1 wanted.0 wanted.1 required.0 required.1
  where
    made : (dropins : List PlaceParts) → AreDropIns v names dropins → (wanted : List Name) → AreLinks v names Wants wanted
        → (required : List Name) → AreLinks v names Requires required → (u : LoadedUnit) × IsUnit v n u
    made dropins dropins_are wanted wanted_are required required_are =
        let settings = settings_in v fragment dropins in
        let items = items_of v (files_with fragment dropins) in
        let values = rows_of v.profile settings n in
        let unit : LoadedUnit =
        record {
          name = n;
          names = names;
          status = from.status;
          dropins = dropins;
          values = values;
          deps = with_implied v.profile n values (lists_with v.profile settings n (record { wanted = wanted; required = required }));
          notes =
              file_notes v (files_with fragment dropins)
              ++ map note.Setting (setting_notes v.profile items n (record { wanted = wanted; required = required }));
          manual = refuses settings;
          has_defaults = has_defaults_by v.profile n values;
          mounts = mounts_by v.profile n values;
        } in
        let has : HasSettings v fragment unit =
        record {
          dropins_are = dropins_are;
          links = record { wanted = wanted; required = required };
          links_are = record { wanted_are = wanted_are; required_are = required_are };
          values_are = refl;
          deps_are = refl;
          notes_are = refl;
          manual_is = refl;
          defaults_are = refl;
          mounts_are = refl;
        } in (
          unit,
          record {
            main_is = own;
            name_is = refl;
            names_are = are;
            status_is = from.status_is;
            has = has_all v unit from.status fragment from.fragment_is from.loaded has;
          },
        )
