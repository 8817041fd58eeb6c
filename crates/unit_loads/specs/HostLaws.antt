-- Laws of hosts: one at whose places nothing is visible has the units that there are without a host.
use Rattle.std.proofs.Common.{◌%◌, ◌==◌, ◌↔◌, ◌∷◌, ◌≡◌, ◌⊎◌}
use Rattle.unit_loads.specs.Prelude.{ap, Assignment, Contains, content_at, DepKind, drop_ins_are_the_fleets, EntryMap, false, File, first_or_later, Fleet, fleets_level, fleets_place, Folder, fragments_are_in_view, Host, host_view_of, hosts_without_places_have_these_drop_ins, hosts_without_places_have_these_links, hosts_without_places_resolve_alike, HostViewMap, implied_names, inl, inr, IsDropInAt, IsLinked, List, main, mains_decide, Name, None, of_fleet, of_host, Option, PlaceParts, Profile, refl, Resolution, resolution, rows_of, Scope, settings_of, ShowsNothing, Some, subst, sym, ℕ, ◌∙◌, facts_of}
use Rattle.unit_loads.specs.{declared.units.{Status.{Status, TheVariants.{Bad, BuiltIn, Loaded, Masked, NotFound}}, Unit.{Unit as LoadedUnit}}, ElsewhereLaws.{chosen, items_same, settings_too}, NamedUnits.{Counts, IsAssigned, IsImplied, IsLoadedFrom, IsNamed, IsNamedByLink, IsNamedByWord, kind_of}, Units.{AreDropIns, files_with, HasAllOf, HasSettings, IsStatus, IsUnit, items_of}}
use Rattle.fragment_choice.specs.declared.choices.Choice.TheVariants as choice

-- The same stands for each name in both views, units have the same drop-ins and links, and their fragments and drop-ins show the same.
pub record HaveTheSameFiles (s t : HostViewMap) : Type 0 where
  pub resolved : (n : Name) → resolution s n ≡ resolution t n
  pub drop_ins : (names : List Name) (place : PlaceParts) → IsDropInAt s names place ↔ IsDropInAt t names place
  pub links : (names : List Name) (folder : Folder) (n : Name) → IsLinked s names folder n ↔ IsLinked t names folder n
  pub fragments_show :
      (n : Name) (place : PlaceParts) → (resolution s n).choice ≡ choice.Fragment place → content_at s place ≡ content_at t place
  pub drop_ins_show : (names : List Name) (place : PlaceParts) → IsDropInAt s names place → content_at s place ≡ content_at t place

-- so it is for a host at whose places nothing is visible, and without a host
abbrev pub HostsWithoutPlacesHaveTheseFiles : Type 0
HostsWithoutPlacesHaveTheseFiles =
    (s : EntryMap) (host : List ℕ) (profile : Profile) → ShowsNothing s (Host host)
    → HaveTheSameFiles (host_view_of s (of_host host profile)) (host_view_of s (of_fleet profile))

-- it has the units that there are without a host
abbrev pub HostsWithoutPlacesHaveTheseUnits : Type 0
HostsWithoutPlacesHaveTheseUnits =
    (s : EntryMap) (host : List ℕ) (profile : Profile) → ShowsNothing s (Host host) → (name : Name) (unit : LoadedUnit)
    → IsUnit (host_view_of s (of_host host profile)) name unit ↔ IsUnit (host_view_of s (of_fleet profile)) name unit

-- and these name the same
abbrev pub HostsWithoutPlacesNameAlike : Type 0
HostsWithoutPlacesNameAlike =
    (s : EntryMap) (host : List ℕ) (profile : Profile) → ShowsNothing s (Host host) → (unit : Name) (dep : DepKind) (v : Name)
    → IsNamed (host_view_of s (of_host host profile)) unit dep v ↔ IsNamed (host_view_of s (of_fleet profile)) unit dep v

-- ---- the same files make the same units

pub turned : (s t : HostViewMap) → HaveTheSameFiles s t → HaveTheSameFiles t s
turned s t same = record {
  resolved = λ n. sym (same.resolved n);
  drop_ins = λ names place. ((same.drop_ins names place).1, (same.drop_ins names place).0);
  links = λ names folder n. ((same.links names folder n).1, (same.links names folder n).0);
  fragments_show = λ n place e. sym (same.fragments_show n place (ap (λ (r : Resolution). r.choice) (same.resolved n) ∙ e));
  drop_ins_show = λ names place d. sym (same.drop_ins_show names place ((same.drop_ins names place).1 d));
}

module _ (s t : HostViewMap) (same : HaveTheSameFiles s t) where
  pub same_mains : (n : Name) → main s n ≡ main t n
  same_mains n = ap (λ (r : Resolution). r.main) (same.resolved n)

  -- the files of a unit with a name and these drop-ins show the same
  pub files_show : (n : Name) (fragment : Option PlaceParts)
      → ((place : PlaceParts) → fragment ≡ Some place → (resolution s n).choice ≡ choice.Fragment place)
      → (names : List Name) (dropins : List PlaceParts) → ((p : PlaceParts) → Contains dropins p → IsDropInAt s names p)
      → (p : PlaceParts) → Contains (files_with fragment dropins) p → content_at s p ≡ content_at t p
  files_show n None chosen_there names dropins are p c = same.drop_ins_show names p (are p c)
  files_show n (Some fragment) chosen_there names dropins are p c = elim (first_or_later fragment p dropins c) [
    | inl f ↦ same.fragments_show n p (chosen_there p (ap Some f))
    | inr d ↦ same.drop_ins_show names p (are p d)
  ]

  pub drop_ins_there : (names : List Name) (dropins : List PlaceParts) → AreDropIns s names dropins → AreDropIns t names dropins
  drop_ins_there names dropins are = record {
    ascending = are.ascending;
    exact = λ p. (λ c. (same.drop_ins names p).0 ((are.exact p).0 c), λ d. (are.exact p).1 ((same.drop_ins names p).1 d));
  }

  -- a unit is the same by one profile
  module _ (profile : s.profile ≡ t.profile) where
    status_there : (n : Name) (status : Status) → IsStatus s.profile n (resolution s n).choice status
        → IsStatus t.profile n (resolution t n).choice status
    status_there n status is =
        subst (λ (by : Profile). IsStatus by n (resolution t n).choice status) profile
        (subst (λ (r : Resolution). IsStatus s.profile n r.choice status) (same.resolved n) is)

    settings_there : (name : Name) (unit : LoadedUnit) (fragment : Option PlaceParts)
        → ((place : PlaceParts) → fragment ≡ Some place → (resolution s name).choice ≡ choice.Fragment place)
        → HasSettings s fragment unit → HasSettings t fragment unit
    settings_there name unit fragment chosen_there h =
        settings_too s t profile unit fragment (same.drop_ins unit.names) (same.links unit.names)
        (files_show name fragment chosen_there unit.names unit.dropins (λ p. (h.dropins_are.exact p).0)) h

    all_there : (name : Name) (unit : LoadedUnit) (status : Status) → IsStatus s.profile name (resolution s name).choice status
        → HasAllOf s unit status → HasAllOf t unit status
    all_there name unit (Loaded fragment) is h =
        settings_there name unit (Some fragment) (λ place e. chosen s.profile name (resolution s name).choice (Loaded fragment) place is e) h
    all_there name unit BuiltIn is h =
        settings_there name unit None (λ place e. chosen s.profile name (resolution s name).choice BuiltIn place is e) h
    all_there name unit NotFound is h = h
    all_there name unit Masked is h = h
    all_there name unit (Bad cause) is h = h

    pub unit_there : (name : Name) (unit : LoadedUnit) → IsUnit s name unit → IsUnit t name unit
    unit_there name unit u = record {
      main_is = sym (same_mains name) ∙ u.main_is;
      name_is = u.name_is;
      names_are = mains_decide s t same_mains name unit.names u.names_are;
      status_is = status_there name unit.status u.status_is;
      has = all_there name unit unit.status u.status_is u.has;
    }

    loaded_there : (n : Name) (fragment : Option PlaceParts) → IsLoadedFrom s n fragment → IsLoadedFrom t n fragment
    loaded_there n fragment h = record {
      status = h.status;
      status_is = status_there n h.status h.status_is;
      loaded = h.loaded;
      fragment_is = h.fragment_is;
    }

    -- a unit with a fragment and drop-ins has the same assignments
    items_there : (n : Name) (fragment : Option PlaceParts) → IsLoadedFrom s n fragment → (names : List Name) (dropins : List PlaceParts)
        → AreDropIns s names dropins → items_of s (files_with fragment dropins) ≡ items_of t (files_with fragment dropins)
    items_there n fragment h names dropins are =
        items_same s t (files_with fragment dropins)
        (files_show n fragment (λ place e. chosen s.profile n (resolution s n).choice h.status place h.status_is (h.fragment_is ∙ e)) names dropins (λ p. (are.exact p).0))

    named_by_word : (unit : Name) (dep : DepKind) (v : Name) → IsNamedByWord s unit dep v → IsNamedByWord t unit dep v
    named_by_word unit dep v n = record {
      names = n.names;
      names_are = mains_decide s t same_mains unit n.names n.names_are;
      fragment = n.fragment;
      loaded = loaded_there unit n.fragment n.loaded;
      dropins = n.dropins;
      dropins_are = drop_ins_there n.names n.dropins n.dropins_are;
      text = n.text;
      assigned =
          subst (λ (by : Profile). IsAssigned by (items_of t (files_with n.fragment n.dropins)) dep n.text) profile
          (subst (λ (items : List Assignment). IsAssigned s.profile items dep n.text)
          (items_there unit n.fragment n.loaded n.names n.dropins n.dropins_are) n.assigned);
      named = n.named;
    }

    named_by_link : (unit : Name) (folder : Folder) (v : Name) → IsNamedByLink s unit folder v → IsNamedByLink t unit folder v
    named_by_link unit folder v n = record {
      names = n.names;
      names_are = mains_decide s t same_mains unit n.names n.names_are;
      fragment = n.fragment;
      loaded = loaded_there unit n.fragment n.loaded;
      link = n.link;
      linked = (same.links n.names folder n.link).0 n.linked;
      named = n.named;
    }

    implied_there : (unit : Name) (dep : DepKind) (v : Name) → IsImplied s unit dep v → IsImplied t unit dep v
    implied_there unit dep v n = record {
      by_manager = sym profile ∙ n.by_manager;
      names = n.names;
      names_are = mains_decide s t same_mains unit n.names n.names_are;
      fragment = n.fragment;
      loaded = loaded_there unit n.fragment n.loaded;
      dropins = n.dropins;
      dropins_are = drop_ins_there n.names n.dropins n.dropins_are;
      implied =
          subst (λ (by : Profile). Contains {X = DepKind × Name} (implied_names (facts_of unit (rows_of by (settings_of by (items_of t (files_with n.fragment n.dropins))) unit))) (dep, v)) profile
          (subst (λ (items : List Assignment). Contains {X = DepKind × Name} (implied_names (facts_of unit (rows_of s.profile (settings_of s.profile items) unit))) (dep, v))
          (items_there unit n.fragment n.loaded n.names n.dropins n.dropins_are) n.implied);
    }

    pub named_there : (unit : Name) (dep : DepKind) (v : Name) → IsNamed s unit dep v → IsNamed t unit dep v
    named_there unit dep v (counts, way) = (subst (λ (by : Profile). Counts by dep v) profile counts, by way)
      where
        by : IsNamedByWord s unit dep v ⊎ ((folder : Folder) × (kind_of folder ≡ dep) × IsNamedByLink s unit folder v)
            ⊎ IsImplied s unit dep v
            → IsNamedByWord t unit dep v ⊎ ((folder : Folder) × (kind_of folder ≡ dep) × IsNamedByLink t unit folder v)
            ⊎ IsImplied t unit dep v
        by (inl n) = inl (named_by_word unit dep v n)
        by (inr (inl (folder, kind, n))) = inr (inl (folder, kind, named_by_link unit folder v n))
        by (inr (inr n)) = inr (inr (implied_there unit dep v n))

-- ---- a host without places

module _ (s : EntryMap) (host : List ℕ) (profile : Profile) where
  abbrev hosts : HostViewMap
  hosts = host_view_of s (of_host host profile)

  abbrev fleets : HostViewMap
  fleets = host_view_of s (of_fleet profile)

  -- at a place of the fleet's a host is shown what is shown without one
  fleets_content : (place : PlaceParts) → place.scope ≡ Fleet → content_at hosts place ≡ content_at fleets place
  fleets_content place e =
      let at : Scope → PlaceParts = λ scope. record { scope = scope; path = place.path } in
      let P : Scope → Type 0 = λ scope. content_at hosts (at scope) ≡ content_at fleets (at scope) in
      subst P (sym e) refl

  -- fragments and drop-ins that there are without a host are the fleet's
  fragment_scope : (n : Name) (place : PlaceParts) → (resolution fleets n).choice ≡ choice.Fragment place → place.scope ≡ Fleet
  fragment_scope n place e =
      let file = fragments_are_in_view fleets n place e in
      let odd : (file.0.rank % 2 == 0) ≡ false = fleets_level s profile file.0 (File (file.3 ∷ file.4)) file.5 in
      ap (λ (p : PlaceParts). p.scope) (sym file.1 ∙ fleets_place fleets file.0 odd)

  drop_in_scope : (names : List Name) (place : PlaceParts) → IsDropInAt fleets names place → place.scope ≡ Fleet
  drop_in_scope names place d = ap (λ (p : PlaceParts). p.scope) (sym ((drop_ins_are_the_fleets s profile names place).0 d).1)

  module _ (none : ShowsNothing s (Host host)) where
    resolved_alike : (n : Name) → resolution hosts n ≡ resolution fleets n
    resolved_alike = hosts_without_places_resolve_alike s host profile none

    same_files : HaveTheSameFiles hosts fleets
    same_files = record {
      resolved = resolved_alike;
      drop_ins = hosts_without_places_have_these_drop_ins s host profile none;
      links = hosts_without_places_have_these_links s host profile none;
      fragments_show = λ n place e.
          fleets_content place (fragment_scope n place (ap (λ (r : Resolution). r.choice) (sym (resolved_alike n)) ∙ e));
      drop_ins_show = λ names place d.
          fleets_content place (drop_in_scope names place ((hosts_without_places_have_these_drop_ins s host profile none names place).0 d));
    }

    same_units : (name : Name) (unit : LoadedUnit) → IsUnit hosts name unit ↔ IsUnit fleets name unit
    same_units name unit =
        (unit_there hosts fleets same_files refl name unit, unit_there fleets hosts (turned hosts fleets same_files) refl name unit)

    same_named : (unit : Name) (dep : DepKind) (v : Name) → IsNamed hosts unit dep v ↔ IsNamed fleets unit dep v
    same_named unit dep v =
        (named_there hosts fleets same_files refl unit dep v, named_there fleets hosts (turned hosts fleets same_files) refl unit dep v)

pub hosts_without_places_have_these_files : HostsWithoutPlacesHaveTheseFiles
hosts_without_places_have_these_files s host profile none = same_files s host profile none

pub hosts_without_places_have_these_units : HostsWithoutPlacesHaveTheseUnits
hosts_without_places_have_these_units s host profile none = same_units s host profile none

pub hosts_without_places_name_alike : HostsWithoutPlacesNameAlike
hosts_without_places_name_alike s host profile none = same_named s host profile none
