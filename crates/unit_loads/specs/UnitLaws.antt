-- A store has one unit of a name.
use Rattle.std.proofs.Common.{◌++◌, ◌≡◌}
use Rattle.unit_loads.specs.Prelude.{among_from_contains, ap, Bool, Choice, contains_from_among, DependencyList, false, Folder, HostViewMap, List, map, Name, name_cmp, nat_list_cmp_total, None, one_ascending_list, one_list_of_names, one_order, Option, PlaceParts, Profile, refuses, Requires, resolution, Row, rows_of, Some, subst, sym, true, Wants, ◌∙◌, has_defaults_by, mounts_by, with_implied}
use Rattle.unit_loads.specs.{WithoutFiles.{is_loaded_without_file}, declared.{links.LinkNames.{LinkNames}, units.{Status.{Status, TheVariants.{Bad, BuiltIn, Loaded, Masked, NotFound}}, Unit.{Unit as LoadedUnit}, UnitNote.{UnitNote}}}, Units.{AreDropIns, AreLinkNames, AreLinks, file_notes, files_with, HasAllOf, HasNothing, HasSettings, IsChoicesStatus, IsStatus, IsStatusBy, IsUnit, items_of, lists_with, setting_notes, settings_in}}
use Rattle.fragment_choice.specs.declared.choices.Choice.TheVariants as choice
use Rattle.unit_loads.specs.declared.units.UnitNote.TheVariants as note

-- Two units with one name in one store are equal.
abbrev pub OneUnit : Type 0
OneUnit = (s : HostViewMap) (name : Name) (a b : LoadedUnit) → IsUnit s name a → IsUnit s name b → a ≡ b

-- the choice of a name gives one status
one_choices_status : (c : Choice) (x y : Status) → IsChoicesStatus c x → IsChoicesStatus c y → x ≡ y
one_choices_status choice.NotFound x y p q = p ∙ sym q
one_choices_status choice.Masked x y p q = p ∙ sym q
one_choices_status (choice.Fragment path) x y p q = p ∙ sym q
one_choices_status (choice.Alias other) x y p q = absurd p
one_choices_status (choice.Bad cause) x y p q = p ∙ sym q

one_status_by : (without_file : Bool) (c : Choice) (x y : Status) → IsStatusBy without_file c x → IsStatusBy without_file c y → x ≡ y
one_status_by true c x y p q = p ∙ sym q
one_status_by false c x y p q = one_choices_status c x y p q

pub one_status : (profile : Profile) (unit : Name) (c : Choice) (x y : Status) → IsStatus profile unit c x
    → IsStatus profile unit c y → x ≡ y
one_status profile unit c x y p q = one_status_by (is_loaded_without_file profile unit c) c x y p q

module _ (s : HostViewMap) (names : List Name) where
  -- names have one list of drop-ins
  pub one_dropins : (ps qs : List PlaceParts) → AreDropIns s names ps → AreDropIns s names qs → ps ≡ qs
  one_dropins ps qs a b = one_order ps qs a.ascending b.ascending (λ p. (λ c. (b.exact p).1 ((a.exact p).0 c), λ c. (a.exact p).1 ((b.exact p).0 c)))

  -- and their link folders of a sort give one list of names
  pub one_links : (folder : Folder) (xs ys : List Name) → AreLinks s names folder xs → AreLinks s names folder ys → xs ≡ ys
  one_links folder xs ys a b = one_ascending_list name_cmp nat_list_cmp_total xs ys a.ascending b.ascending (λ n. (
    λ h. among_from_contains n ys ((b.exact n).1 ((a.exact n).0 (contains_from_among n xs h))),
    λ h. among_from_contains n xs ((a.exact n).1 ((b.exact n).0 (contains_from_among n ys h))),
  ))

  pub one_pair_of_links : (x y : LinkNames) → AreLinkNames s names x → AreLinkNames s names y → x ≡ y
  one_pair_of_links x y a b =
      ap (λ (l : List Name). let r : LinkNames = record { wanted = l; required = x.required } in r) (one_links Wants x.wanted y.wanted a.wanted_are b.wanted_are)
      ∙ ap (λ (l : List Name). let r : LinkNames = record { wanted = y.wanted; required = l } in r) (one_links Requires x.required y.required a.required_are b.required_are)

-- two units have the same drop-ins, settings and notes
record AreAlike (a b : LoadedUnit) : Type 0 where
  dropins : a.dropins ≡ b.dropins
  values : a.values ≡ b.values
  deps : a.deps ≡ b.deps
  notes : a.notes ≡ b.notes
  manual : a.manual ≡ b.manual
  has_defaults : a.has_defaults ≡ b.has_defaults
  mounts : a.mounts ≡ b.mounts

module _ (s : HostViewMap) (a b : LoadedUnit) (name : a.name ≡ b.name) (names : a.names ≡ b.names) where
  alike_if_loaded : (fragment : Option PlaceParts) → HasSettings s fragment a → HasSettings s fragment b → AreAlike a b
  alike_if_loaded fragment p q =
      let dropins = one_dropins s b.names a.dropins b.dropins (subst (λ ns. AreDropIns s ns a.dropins) names p.dropins_are) q.dropins_are in
      let links = one_pair_of_links s b.names p.links q.links (subst (λ ns. AreLinkNames s ns p.links) names p.links_are) q.links_are in
      let values =
      p.values_are ∙ ap (λ ps. rows_of s.profile (settings_in s fragment ps) a.name) dropins
      ∙ ap (rows_of s.profile (settings_in s fragment b.dropins)) name ∙ sym q.values_are in
      record {
        dropins = dropins;
        values = values;
        deps =
            p.deps_are ∙ ap (λ ps. with_implied s.profile a.name a.values (lists_with s.profile (settings_in s fragment ps) a.name p.links)) dropins
            ∙ ap (λ n. with_implied s.profile n a.values (lists_with s.profile (settings_in s fragment b.dropins) n p.links)) name
            ∙ ap (λ l. with_implied s.profile b.name a.values (lists_with s.profile (settings_in s fragment b.dropins) b.name l)) links
            ∙ ap (λ vs. with_implied s.profile b.name vs (lists_with s.profile (settings_in s fragment b.dropins) b.name q.links)) values ∙ sym q.deps_are;
        notes =
            p.notes_are ∙ ap (λ ps. file_notes s (files_with fragment ps) ++ map note.Setting (setting_notes s.profile (items_of s (files_with fragment ps)) a.name p.links)) dropins
            ∙ ap (λ n. file_notes s (files_with fragment b.dropins) ++ map note.Setting (setting_notes s.profile (items_of s (files_with fragment b.dropins)) n p.links)) name
            ∙ ap (λ l. file_notes s (files_with fragment b.dropins) ++ map note.Setting (setting_notes s.profile (items_of s (files_with fragment b.dropins)) b.name l)) links
            ∙ sym q.notes_are;
        manual = p.manual_is ∙ ap (λ ps. refuses (settings_in s fragment ps)) dropins ∙ sym q.manual_is;
        has_defaults = p.defaults_are ∙ ap (λ n. has_defaults_by s.profile n a.values) name ∙ ap (has_defaults_by s.profile b.name) values ∙ sym q.defaults_are;
        mounts = p.mounts_are ∙ ap (λ n. mounts_by s.profile n a.values) name ∙ ap (mounts_by s.profile b.name) values ∙ sym q.mounts_are;
      }

  alike_if_not : HasNothing a → HasNothing b → AreAlike a b
  alike_if_not p q = record {
    dropins = p.no_dropins ∙ sym q.no_dropins;
    values = p.no_values ∙ sym q.no_values;
    deps = p.no_deps ∙ sym q.no_deps;
    notes = p.no_notes ∙ sym q.no_notes;
    manual = p.not_manual ∙ sym q.not_manual;
    has_defaults = p.no_defaults ∙ sym q.no_defaults;
    mounts = p.no_mounts ∙ sym q.no_mounts;
  }

  alike : (status : Status) → HasAllOf s a status → HasAllOf s b status → AreAlike a b
  alike (Loaded fragment) p q = alike_if_loaded (Some fragment) p q
  alike BuiltIn p q = alike_if_loaded None p q
  alike NotFound p q = alike_if_not p q
  alike Masked p q = alike_if_not p q
  alike (Bad cause) p q = alike_if_not p q

unit_of : Name → List Name → Status → List PlaceParts → List Row → List DependencyList → List UnitNote → Bool → Bool
    → List Name → LoadedUnit
unit_of name names status dropins values deps notes manual has_defaults mounts = record {
  name = name;
  names = names;
  status = status;
  dropins = dropins;
  values = values;
  deps = deps;
  notes = notes;
  manual = manual;
  has_defaults = has_defaults;
  mounts = mounts;
}

same_unit : (a b : LoadedUnit) → a.name ≡ b.name → a.names ≡ b.names → a.status ≡ b.status → AreAlike a b → a ≡ b
unfolding unit_of
same_unit a b name names status rest =
    ap (λ x. unit_of x a.names a.status a.dropins a.values a.deps a.notes a.manual a.has_defaults a.mounts) name
    ∙ ap (λ x. unit_of b.name x a.status a.dropins a.values a.deps a.notes a.manual a.has_defaults a.mounts) names
    ∙ ap (λ x. unit_of b.name b.names x a.dropins a.values a.deps a.notes a.manual a.has_defaults a.mounts) status
    ∙ ap (λ x. unit_of b.name b.names b.status x a.values a.deps a.notes a.manual a.has_defaults a.mounts) rest.dropins
    ∙ ap (λ x. unit_of b.name b.names b.status b.dropins x a.deps a.notes a.manual a.has_defaults a.mounts) rest.values
    ∙ ap (λ x. unit_of b.name b.names b.status b.dropins b.values x a.notes a.manual a.has_defaults a.mounts) rest.deps
    ∙ ap (λ x. unit_of b.name b.names b.status b.dropins b.values b.deps x a.manual a.has_defaults a.mounts) rest.notes
    ∙ ap (λ x. unit_of b.name b.names b.status b.dropins b.values b.deps b.notes x a.has_defaults a.mounts) rest.manual
    ∙ ap (λ x. unit_of b.name b.names b.status b.dropins b.values b.deps b.notes b.manual x a.mounts) rest.has_defaults
    ∙ ap (λ x. unit_of b.name b.names b.status b.dropins b.values b.deps b.notes b.manual b.has_defaults x) rest.mounts

pub one_unit : OneUnit
one_unit s name a b p q =
    let unit_name = p.name_is ∙ sym q.name_is in
    let names = one_list_of_names s name a.names b.names p.names_are q.names_are in
    let status = one_status s.profile name (resolution s name).choice a.status b.status p.status_is q.status_is in
    same_unit a b unit_name names status (alike s a b unit_name names a.status p.has (subst (HasAllOf s b) (sym status) q.has))
