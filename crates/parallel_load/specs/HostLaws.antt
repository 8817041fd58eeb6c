-- Laws of hosts: where two views have equal alias words and the same units, a load of one is a load of the other, but for its
-- host; so a host at whose places nothing is visible loads what is loaded without one.
use Rattle.std.proofs.Common.{◌↔◌, ◌∷◌, ◌≡◌}
use Rattle.parallel_load.specs.Prelude.{[], All-weaker, DependencyList, EntryMap, Host, host_view_of, hosts_without_places_have_these_units, hosts_without_places_name_alike, HostViewMap, inl, inr, IsUnit, keys_of, leads_decide_mains, link_targets_decide, List, LoadedUnit, main, Name, of_fleet, of_host, own_path, Profile, refl, same_reached, same_sights, SameLeads, SameWords, ShowsNothing, subst, sym, Viewer, viewer_of, views_decide_link_targets, ℕ, ◌∙◌}
use Rattle.parallel_load.specs.{Alone.{IsAliasOf, IsLoadAlone}, declared.loaded.NameLoad.{NameLoad, TheVariants.{Alias as OfAlias, Unit as OfUnit}}, Loads.{AreNamedAlone, IsLoad, IsLoadedUnit, IsNameLoad, LoadMap, with_lists}, OwnWordLaws.{words_again}, StableLoadLaws.{by_mains_same, KeepsItsNames, same_names_keep_the_universe, words_keep_visible_names}, Universe.{AreUniverse, IsInUniverse, IsSource, IsTooLarge, LeadsTo}, UniverseLaws.{mains_have_units}}

-- the units of one view are those of the other
abbrev pub UnitsStay : HostViewMap → HostViewMap → Type 0
UnitsStay s t = (n : Name) (unit : LoadedUnit) → IsUnit s n unit → IsUnit t n unit

-- the same that is loaded, for this viewer
abbrev pub loaded_for : Viewer → LoadMap → LoadMap
loaded_for viewer load = record load { viewer = viewer }

-- Views by one profile with equal alias words and the same units have the same load, but for the host.
abbrev pub SameUnitsMakeTheLoad : Type 0
SameUnitsMakeTheLoad =
    (s t : HostViewMap) (extra : List Name) (load : LoadMap) → s.profile ≡ t.profile → SameWords s t → UnitsStay s t → IsLoad s extra load
    → IsLoad t extra (loaded_for (viewer_of t) load)

-- A host at whose places nothing is visible loads what is loaded without one.
abbrev pub HostsWithoutPlacesLoadAlike : Type 0
HostsWithoutPlacesLoadAlike =
    (s : EntryMap) (host : List ℕ) (profile : Profile) → ShowsNothing s (Host host) → (extra : List Name) (load : LoadMap)
    → IsLoad (host_view_of s (of_host host profile)) extra (loaded_for (of_host host profile) load)
    ↔ IsLoad (host_view_of s (of_fleet profile)) extra (loaded_for (of_fleet profile) load)

-- And as much of it must be loaded.
abbrev pub HostsWithoutPlacesAreAsLarge : Type 0
HostsWithoutPlacesAreAsLarge =
    (s : EntryMap) (host : List ℕ) (profile : Profile) → ShowsNothing s (Host host) → (extra : List Name)
    → IsTooLarge (host_view_of s (of_host host profile)) extra ↔ IsTooLarge (host_view_of s (of_fleet profile)) extra

-- ---- the same units make the load

module _ (s t : HostViewMap) (profile : s.profile ≡ t.profile) (words : SameWords s t) (unit_stays : UnitsStay s t) where
  leads : SameLeads s t
  leads = link_targets_decide s t words

  alias_stays : (n m : Name) → IsAliasOf s n m → IsAliasOf t n m
  alias_stays n m a = record { main_is = sym (leads_decide_mains s t leads n) ∙ a.main_is; other = a.other }

  alone_stays : (n : Name) (one : NameLoad) → IsLoadAlone s n one → IsLoadAlone t n one
  alone_stays n (OfUnit unit) is = unit_stays n unit is
  alone_stays n (OfAlias of) is = alias_stays n of is

  name_stays : (n : Name) (one : NameLoad) → IsNameLoad s n one → IsNameLoad t n one
  name_stays n (OfUnit unit) p = record {
    alone = p.alone;
    is_unit = unit_stays n p.alone p.is_unit;
    by_mains_is = p.by_mains_is ∙ by_mains_same s t leads p.alone;
  }
  name_stays n (OfAlias of) p = alias_stays n of p

  named_stay : (names : List (Name × NameLoad)) (named : List (List DependencyList))
      → AreNamedAlone s names named → AreNamedAlone t names named
  named_stay [] [] h = tt
  named_stay [] (l ∷ ls) h = absurd h
  named_stay (p ∷ ps) [] h = absurd h
  named_stay (p ∷ ps) (l ∷ ls) h = (
    record { alone = alone_stays p.0 (with_lists p.1 l) h.0.alone; lists_are = h.0.lists_are },
    named_stay ps ls h.1,
  )

  module _ (extra : List Name) (load : LoadMap) (l : IsLoad s extra load) where
    -- each unit names what it named
    keeps : (n : Name) → IsInUniverse s extra n → main s n ≡ n → KeepsItsNames s t n
    keeps n r own =
        let has = mains_have_units s extra load n l r in
        let u = subst (λ (m : Name). IsLoadedUnit s m has.unit) own has.is_unit in
        record {
          before = u.alone;
          after = u.alone;
          is_before = u.is_unit;
          is_after = unit_stays n u.alone u.is_unit;
          same = λ m. (λ h. h, λ h. h);
        }

    universe_stays : AreUniverse t extra (keys_of load.names)
    universe_stays =
        same_names_keep_the_universe s t extra (keys_of load.names) profile leads (words_keep_visible_names s t words) keeps l.universe

    load_stays : IsLoad t extra (loaded_for (viewer_of t) load)
    load_stays =
        let P : Name × NameLoad → Type 0 = λ p. IsNameLoad s p.0 p.1 in
        let Q : Name × NameLoad → Type 0 = λ p. IsNameLoad t p.0 p.1 in
        record {
          viewer_is = refl;
          extra_is = l.extra_is;
          universe = universe_stays;
          loaded = All-weaker P Q (λ p h. name_stays p.0 p.1 h) load.names l.loaded;
          named = named_stay load.names load.named l.named;
          words = words_again s t load.words words l.words;
        }

pub same_units_make_the_load : SameUnitsMakeTheLoad
same_units_make_the_load s t extra load profile words units l = load_stays s t profile words units extra load l

-- ---- a host without places

module _ (s : EntryMap) (host : List ℕ) (profile : Profile) (none : ShowsNothing s (Host host)) where
  abbrev hosts : HostViewMap
  hosts = host_view_of s (of_host host profile)

  abbrev fleets : HostViewMap
  fleets = host_view_of s (of_fleet profile)

  own_link_targets : SameWords hosts fleets
  own_link_targets n = views_decide_link_targets hosts fleets n (λ l h. same_sights s host profile none (own_path n l))

  fleets_words : SameWords fleets hosts
  fleets_words n = sym (own_link_targets n)

  loads_alike : (extra : List Name) (load : LoadMap)
      → IsLoad hosts extra (loaded_for (of_host host profile) load) ↔ IsLoad fleets extra (loaded_for (of_fleet profile) load)
  loads_alike extra load = (
    same_units_make_the_load hosts fleets extra (loaded_for (of_host host profile) load) refl own_link_targets
        (λ n unit. (hosts_without_places_have_these_units s host profile none n unit).0),
    same_units_make_the_load fleets hosts extra (loaded_for (of_fleet profile) load) refl fleets_words
        (λ n unit. (hosts_without_places_have_these_units s host profile none n unit).1),
  )

  mains_alike : (n : Name) → main hosts n ≡ main fleets n
  mains_alike = leads_decide_mains hosts fleets (link_targets_decide hosts fleets own_link_targets)

  sources_alike : (extra : List Name) (n : Name) → IsSource hosts extra n ↔ IsSource fleets extra n
  sources_alike extra n = (to, from)
    where
      to : IsSource hosts extra n → IsSource fleets extra n
      to (inl h) = inl h
      to (inr v) = inr ((words_keep_visible_names hosts fleets own_link_targets n).0 v)

      from : IsSource fleets extra n → IsSource hosts extra n
      from (inl h) = inl h
      from (inr v) = inr ((words_keep_visible_names hosts fleets own_link_targets n).1 v)

  steps_alike : (n m : Name) → LeadsTo hosts n m ↔ LeadsTo fleets n m
  steps_alike n m = (to, from)
    where
      to : LeadsTo hosts n m → LeadsTo fleets n m
      to (inl e) = inl (sym (mains_alike n) ∙ e)
      to (inr h) =
          let named = (hosts_without_places_name_alike s host profile none n h.dep m).0 h.named in
          inr (record { own = sym (mains_alike n) ∙ h.own; dep = h.dep; named = named })

      from : LeadsTo fleets n m → LeadsTo hosts n m
      from (inl e) = inl (mains_alike n ∙ e)
      from (inr h) =
          let named = (hosts_without_places_name_alike s host profile none n h.dep m).1 h.named in
          inr (record { own = mains_alike n ∙ h.own; dep = h.dep; named = named })

  large_alike : (extra : List Name) → IsTooLarge hosts extra ↔ IsTooLarge fleets extra
  large_alike extra = (
    λ h. record { nodes = h.nodes; ascending = h.ascending; reached = λ n among. (reached n).0 (h.reached n among); over = h.over },
    λ h. record { nodes = h.nodes; ascending = h.ascending; reached = λ n among. (reached n).1 (h.reached n among); over = h.over },
  )
    where
      reached : (n : Name) → IsInUniverse hosts extra n ↔ IsInUniverse fleets extra n
      reached =
          same_reached (IsSource hosts extra) (IsSource fleets extra) (LeadsTo hosts) (LeadsTo fleets) (sources_alike extra) steps_alike

pub hosts_without_places_load_alike : HostsWithoutPlacesLoadAlike
hosts_without_places_load_alike s host profile none = loads_alike s host profile none

pub hosts_without_places_are_as_large : HostsWithoutPlacesAreAsLarge
hosts_without_places_are_as_large s host profile none = large_alike s host profile none
