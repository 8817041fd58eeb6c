-- Laws of the names that a unit lists.
use Rattle.std.proofs.Common.{◌++◌, ◌↔◌, ◌≡◌, ◌⊎◌}
use Rattle.setting_rules.specs.declared.kinds.DepKind.TheVariants.{Requires, Wants}
use Rattle.unit_loads.specs.Prelude.{[], After, among_from_contains, ap, AreNames, Before, BindsTo, BoundBy, ConflictedBy, Conflicts, ConsistsOf, Contains, contains_from_among, DependencyList, DepKind, Err, Files, Folder, for_unit, HostViewMap, implied_are_naming, implied_names, inl, inr, InSlice, is_settable, IsAmong, IsAmong-append_cases, IsAmong-append_left, IsAmong-append_right, IsLinked, IsStrictlySortedBy, IsTrue, List, Manager, map, Name, name_cmp, named_by, names_ascend, names_by, names_stay, naming_kinds, None, Ok, Option, one_list_of_names, OnFailure, OnFailureOf, PartOf, PlaceParts, Profile, PropagatesReloadTo, refl, ReloadPropagatedFrom, RequiredBy, Requisite, RequisiteOf, resolution, Result, result_ok, Row, rows_of, SettingMap, SettingNoteKind, SliceOf, Some, subst, sym, TriggeredBy, Triggers, true≢false, UpheldBy, Upholds, WantedBy, words_for, ℕ, ◌∙◌, facts_of, with_implied}
use Rattle.unit_loads.specs.{AdditionLaws.{implied_ascend, implied_listed, kinds_stay, listed_from, listed_stays}, AssignedLaws.{words_are_assigned}, declared.{links.LinkNames.{LinkNames}, units.{Status.{Status, TheVariants.{Bad, BuiltIn, Loaded, Masked, NotFound}}, Unit.{Unit as LoadedUnit}}}, MemberLaws.{among_filter_map, among_map, filter_map_among, HasSource, map_among}, NamedUnits.{Counts, IsAssigned, IsImplied, IsListed, IsLoadedFrom, IsNamed, IsNamedByLink, IsNamedByWord, kind_of}, UnitLaws.{one_dropins, one_status}, Units.{AreDropIns, AreLinks, files_with, fragment_by, HasAllOf, HasSettings, is_loaded_by, IsStatus, IsUnit, items_of, linked_by, links_for, list_with, lists_with, no_names, settings_in}}
use Rattle.dropins.specs.declared.folder_lists.Folder.TheVariants as folder

-- A unit has a list for each kind by which a unit may name another, in the order of the kinds, whatever its status.
abbrev pub UnitsListAllKinds : Type 0
UnitsListAllKinds = (s : HostViewMap) (name : Name) (unit : LoadedUnit) → IsUnit s name unit → map (λ list. list.kind) unit.deps ≡ naming_kinds

-- Each list is in ascending order.
abbrev pub ListsAscend : Type 0
ListsAscend = (s : HostViewMap) (name : Name) (unit : LoadedUnit) (list : DependencyList) → IsUnit s name unit → Contains unit.deps list → IsStrictlySortedBy name_cmp list.names

-- The lists have exactly the names that the unit names.
abbrev pub ListsHaveWhatIsNamed : Type 0
ListsHaveWhatIsNamed = (s : HostViewMap) (name : Name) (unit : LoadedUnit) (dep : DepKind) (v : Name) → IsUnit s name unit → IsListed unit.deps dep v ↔ IsNamed s name dep v

-- Only a loaded unit names others.
abbrev pub OthersNameNone : Type 0
OthersNameNone = (s : HostViewMap) (name : Name) (unit : LoadedUnit) (dep : DepKind) (v : Name) → IsUnit s name unit → IsNamed s name dep v → IsTrue (is_loaded_by unit.status)

-- a settable kind is one by which a unit may name another
naming_there : (profile : Profile) (dep : DepKind) → IsTrue (is_settable profile dep) → IsAmong dep naming_kinds
naming_there profile Before h = inl refl
naming_there profile After h = inr (inl refl)
naming_there profile Wants h = inr (inr (inl refl))
naming_there profile Requires h = inr (inr (inr (inl refl)))
naming_there profile Requisite h = inr (inr (inr (inr (inl refl))))
naming_there profile BindsTo h = inr (inr (inr (inr (inr (inl refl)))))
naming_there profile PartOf h = inr (inr (inr (inr (inr (inr (inl refl))))))
naming_there profile Conflicts h = inr (inr (inr (inr (inr (inr (inr (inl refl)))))))
naming_there profile OnFailure h = inr (inr (inr (inr (inr (inr (inr (inr (inl refl))))))))
naming_there profile PropagatesReloadTo h = inr (inr (inr (inr (inr (inr (inr (inr (inr (inl refl)))))))))
naming_there profile ReloadPropagatedFrom h = inr (inr (inr (inr (inr (inr (inr (inr (inr (inr (inl refl))))))))))
naming_there Files Upholds h = absurd (true≢false (sym h))
naming_there Manager Upholds h = inr (inr (inr (inr (inr (inr (inr (inr (inr (inr (inr (inl refl)))))))))))
naming_there profile WantedBy h = absurd (true≢false (sym h))
naming_there profile RequiredBy h = absurd (true≢false (sym h))
naming_there profile RequisiteOf h = absurd (true≢false (sym h))
naming_there profile BoundBy h = absurd (true≢false (sym h))
naming_there profile ConsistsOf h = absurd (true≢false (sym h))
naming_there profile ConflictedBy h = absurd (true≢false (sym h))
naming_there profile OnFailureOf h = absurd (true≢false (sym h))
naming_there profile UpheldBy h = absurd (true≢false (sym h))
naming_there profile Triggers h = absurd (true≢false (sym h))
naming_there profile TriggeredBy h = absurd (true≢false (sym h))
naming_there profile InSlice h = absurd (true≢false (sym h))
naming_there profile SliceOf h = absurd (true≢false (sym h))

ok_is : (r : Result Name SettingNoteKind) (v : Name) → result_ok r ≡ Some v → r ≡ Ok v
ok_is (Ok x) v h = cc
ok_is (Err e) v h = cc

-- ---- lists without names

nothing_ascends : (list : DependencyList) → IsAmong list no_names → IsStrictlySortedBy name_cmp list.names
unfolding IsStrictlySortedBy
nothing_ascends list h =
    let from = among_map (λ (dep : DepKind). let r : DependencyList = record { kind = dep; names = [] } in r) naming_kinds list h in
    subst (λ (l : DependencyList). IsStrictlySortedBy name_cmp l.names) from.makes tt

nothing_listed : (dep : DepKind) (v : Name) → IsListed no_names dep v → ⊥
nothing_listed dep v h =
    let from = among_map (λ (dep : DepKind). let r : DependencyList = record { kind = dep; names = [] } in r) naming_kinds h.list (among_from_contains h.list no_names h.there) in
    among_from_contains v [] (subst (λ (l : DependencyList). Contains l.names v) (sym from.makes) h.has_name)

-- ---- the lists of a loaded unit

module _ (profile : Profile) (entries : SettingMap) (unit : Name) (links : LinkNames) where
  made_from : (list : DependencyList) → IsAmong list (map (list_with profile entries unit links) naming_kinds)
      → HasSource (λ dep list. list_with profile entries unit links dep ≡ list) naming_kinds list
  made_from list h = among_map (list_with profile entries unit links) naming_kinds list h

  list_ascends : (list : DependencyList) → IsAmong list (map (list_with profile entries unit links) naming_kinds)
      → IsStrictlySortedBy name_cmp list.names
  list_ascends list h =
      let from = made_from list h in
      subst (λ (l : DependencyList). IsStrictlySortedBy name_cmp l.names) from.makes (names_ascend (names_by unit (words_for profile entries from.source) ++ linked_by unit (links_for links from.source)))

  -- a member of the list of a kind is named by a word or by a link
  names_are_from : (dep : DepKind) (v : Name) → Contains (list_with profile entries unit links dep).names v
      → HasSource (λ text z. result_ok (named_by unit text) ≡ Some z) (words_for profile entries dep) v
      ⊎ HasSource (λ link z. for_unit unit link ≡ Some z) (links_for links dep) v
  names_are_from dep v h =
      let words = names_by unit (words_for profile entries dep) in
      let linked = linked_by unit (links_for links dep) in
      by (IsAmong-append_cases v words linked (among_from_contains v (words ++ linked) ((names_stay (words ++ linked) v).0 h)))
    where
      by : IsAmong v (names_by unit (words_for profile entries dep)) ⊎ IsAmong v (linked_by unit (links_for links dep))
          → HasSource (λ text z. result_ok (named_by unit text) ≡ Some z) (words_for profile entries dep) v
          ⊎ HasSource (λ link z. for_unit unit link ≡ Some z) (links_for links dep) v
      by (inl a) = inl (among_filter_map (λ text. result_ok (named_by unit text)) (words_for profile entries dep) v a)
      by (inr b) = inr (among_filter_map (for_unit unit) (links_for links dep) v b)

  listed_in : (dep : DepKind) (v : Name) → IsAmong dep naming_kinds
      → IsAmong v (names_by unit (words_for profile entries dep) ++ linked_by unit (links_for links dep))
      → IsListed (map (list_with profile entries unit links) naming_kinds) dep v
  listed_in dep v naming h = record {
    list = list_with profile entries unit links dep;
    there = contains_from_among (list_with profile entries unit links dep) (map (list_with profile entries unit links) naming_kinds) (map_among (list_with profile entries unit links) naming_kinds dep naming);
    kind_is = refl;
    has_name = (names_stay (names_by unit (words_for profile entries dep) ++ linked_by unit (links_for links dep)) v).1 (contains_from_among v (names_by unit (words_for profile entries dep) ++ linked_by unit (links_for links dep)) h);
  }

  -- each list is of a kind by which a unit may name another
  lists_are_naming : (list : DependencyList) → IsAmong list (map (list_with profile entries unit links) naming_kinds)
      → IsAmong list.kind naming_kinds
  lists_are_naming list h =
      let from = made_from list h in
      subst (λ (l : DependencyList). IsAmong l.kind naming_kinds) from.makes from.there

-- ---- what a loaded unit names

-- in a way of this kind: by a word, by a link, or as a manager implies it
abbrev HasWay : HostViewMap → Name → DepKind → Name → Type 0
HasWay s unit dep v = IsNamedByWord s unit dep v ⊎ ((folder : Folder) × (kind_of folder ≡ dep) × IsNamedByLink s unit folder v) ⊎ IsImplied s unit dep v

module _ (s : HostViewMap) (unit : LoadedUnit) (names_are : AreNames s unit.name unit.names)
    (fragment : Option PlaceParts) (loaded : IsLoadedFrom s unit.name fragment)
    (has : HasSettings s fragment unit) where
  -- what words and links give
  own_lists : List DependencyList
  own_lists = lists_with s.profile (settings_in s fragment unit.dropins) unit.name has.links

  link_names : (sort : Folder) (links : List Name) (v : Name) → AreLinks s unit.names sort links
      → HasSource (λ link z. for_unit unit.name link ≡ Some z) links v → IsNamedByLink s unit.name sort v
  link_names sort links v are from = record {
    names = unit.names;
    names_are = names_are;
    fragment = fragment;
    loaded = loaded;
    link = from.source;
    linked = (are.exact from.source).0 (contains_from_among from.source links from.there);
    named = from.makes;
  }

  named_by_link : (dep : DepKind) (v : Name)
      → HasSource (λ link z. for_unit unit.name link ≡ Some z) (links_for has.links dep) v → HasWay s unit.name dep v
  named_by_link Wants v from = inr (inl (folder.Wants, refl, link_names folder.Wants has.links.wanted v has.links_are.wanted_are from))
  named_by_link Requires v from = inr (inl (folder.Requires, refl, link_names folder.Requires has.links.required v has.links_are.required_are from))
  named_by_link other v from = absurd from.there

  named_by_word : (dep : DepKind) (v : Name)
      → HasSource (λ text z. result_ok (named_by unit.name text) ≡ Some z)
      (words_for s.profile (settings_in s fragment unit.dropins) dep) v → HasWay s unit.name dep v
  named_by_word dep v from = inl (record {
    names = unit.names;
    names_are = names_are;
    fragment = fragment;
    loaded = loaded;
    dropins = unit.dropins;
    dropins_are = has.dropins_are;
    text = from.source;
    assigned = (words_are_assigned s.profile (items_of s (files_with fragment unit.dropins)) dep from.source).0 from.there;
    named = ok_is (named_by unit.name from.source) v from.makes;
  })

  named_from_own : (dep : DepKind) (v : Name) → IsListed own_lists dep v → HasWay s unit.name dep v
  unfolding own_lists
  named_from_own dep v h =
      let entries = settings_in s fragment unit.dropins in
      let from = made_from s.profile entries unit.name has.links h.list (among_from_contains h.list own_lists h.there) in
      let kind_is : from.source ≡ dep = ap (λ (l : DependencyList). l.kind) from.makes ∙ h.kind_is in
      subst (λ (d : DepKind). HasWay s unit.name d v) kind_is (by from.source (names_are_from s.profile entries unit.name has.links from.source v (subst (λ (l : DependencyList). Contains l.names v) (sym from.makes) h.has_name)))
    where
      by : (d : DepKind)
          → HasSource (λ text z. result_ok (named_by unit.name text) ≡ Some z)
          (words_for s.profile (settings_in s fragment unit.dropins) d) v
          ⊎ HasSource (λ link z. for_unit unit.name link ≡ Some z) (links_for has.links d) v → HasWay s unit.name d v
      by d (inl a) = named_by_word d v a
      by d (inr b) = named_by_link d v b

  implies_it : (dep : DepKind) (v : Name) → s.profile ≡ Manager → IsAmong {X = DepKind × Name} (dep, v) (implied_names (facts_of unit.name unit.values)) → IsImplied s unit.name dep v
  implies_it dep v by_manager h = record {
    by_manager = by_manager;
    names = unit.names;
    names_are = names_are;
    fragment = fragment;
    loaded = loaded;
    dropins = unit.dropins;
    dropins_are = has.dropins_are;
    implied = contains_from_among {X = DepKind × Name} (dep, v) (implied_names (facts_of unit.name (rows_of s.profile (settings_in s fragment unit.dropins) unit.name)))
        (subst (λ (rows : List Row). IsAmong {X = DepKind × Name} (dep, v) (implied_names (facts_of unit.name rows))) has.values_are h);
  }

  named_from_listed : (dep : DepKind) (v : Name) → IsListed unit.deps dep v → IsNamed s unit.name dep v
  unfolding own_lists
  named_from_listed dep v h =
      let from = listed_from unit.name unit.values own_lists s.profile dep v (lists_are_naming s.profile (settings_in s fragment unit.dropins) unit.name has.links)
      (subst (λ (lists : List DependencyList). IsListed lists dep v) has.deps_are h) in
      (from.0, by from.1)
    where
      by : IsListed own_lists dep v ⊎ ((s.profile ≡ Manager) × IsAmong {X = DepKind × Name} (dep, v) (implied_names (facts_of unit.name unit.values))) → HasWay s unit.name dep v
      by (inl own) = named_from_own dep v own
      by (inr implied) = inr (inr (implies_it dep v implied.0 implied.1))

  -- each name is in the list of its kind
  in_deps : (dep : DepKind) (v : Name) → Counts s.profile dep v → IsAmong dep naming_kinds
      → IsAmong v
      (names_by unit.name (words_for s.profile (settings_in s fragment unit.dropins) dep) ++ linked_by unit.name
      (links_for has.links dep)) → IsListed unit.deps dep v
  unfolding own_lists
  in_deps dep v counts naming h =
      subst (λ (lists : List DependencyList). IsListed lists dep v) (sym has.deps_are)
      (listed_stays unit.name unit.values own_lists s.profile dep v counts (listed_in s.profile (settings_in s fragment unit.dropins) unit.name has.links dep v naming h))

  word_listed : (dep : DepKind) (v : Name) (text : List ℕ) → Counts s.profile dep v
      → IsAssigned s.profile (items_of s (files_with fragment unit.dropins)) dep text → named_by unit.name text ≡ Ok v
      → IsListed unit.deps dep v
  word_listed dep v text counts assigned named =
      let there = (words_are_assigned s.profile (items_of s (files_with fragment unit.dropins)) dep text).1 assigned in
      let words = words_for s.profile (settings_in s fragment unit.dropins) dep in
      in_deps dep v counts (naming_there s.profile dep assigned.settable) (IsAmong-append_left v (names_by unit.name words) (linked_by unit.name (links_for has.links dep)) (filter_map_among (λ w. result_ok (named_by unit.name w)) words text v there (ap result_ok named)))

  link_listed : (dir : Folder) (v link : Name) → Counts s.profile (kind_of dir) v → IsLinked s unit.names dir link
      → for_unit unit.name link ≡ Some v → IsListed unit.deps (kind_of dir) v
  link_listed folder.Wants v link counts linked named =
      in_deps Wants v counts (inr (inr (inl refl))) (IsAmong-append_right v (names_by unit.name (words_for s.profile (settings_in s fragment unit.dropins) Wants)) (linked_by unit.name has.links.wanted)
      (filter_map_among (for_unit unit.name) has.links.wanted link v (among_from_contains link has.links.wanted ((has.links_are.wanted_are.exact link).1 linked)) named))
  link_listed folder.Requires v link counts linked named =
      in_deps Requires v counts (inr (inr (inr (inl refl)))) (IsAmong-append_right v (names_by unit.name (words_for s.profile (settings_in s fragment unit.dropins) Requires)) (linked_by unit.name has.links.required)
      (filter_map_among (for_unit unit.name) has.links.required link v (among_from_contains link has.links.required ((has.links_are.required_are.exact link).1 linked)) named))

  -- what is implied is in the list of its kind
  implied_in_deps : (dep : DepKind) (v : Name) → Counts s.profile dep v → s.profile ≡ Manager → IsAmong {X = DepKind × Name} (dep, v) (implied_names (facts_of unit.name unit.values)) → IsListed unit.deps dep v
  unfolding own_lists
  implied_in_deps dep v counts by_manager h =
      let entries = settings_in s fragment unit.dropins in
      let naming = implied_are_naming (facts_of unit.name unit.values) dep v h in
      let list = list_with s.profile entries unit.name has.links dep in
      let there = map_among (list_with s.profile entries unit.name has.links) naming_kinds dep naming in
      let listed = implied_listed unit.name unit.values own_lists list v there (subst (λ (p : Profile). Counts p dep v) by_manager counts) h in
      subst (λ (lists : List DependencyList). IsListed lists dep v) (sym has.deps_are)
      (subst (λ (p : Profile). IsListed (with_implied p unit.name unit.values own_lists) dep v) (sym by_manager) listed)

-- ---- the laws

module _ (s : HostViewMap) (unit : LoadedUnit) where
  kinds_if_loaded : (fragment : Option PlaceParts) → HasSettings s fragment unit → map (λ list. list.kind) unit.deps ≡ naming_kinds
  kinds_if_loaded fragment h =
      ap (map (λ (list : DependencyList). list.kind)) h.deps_are
      ∙ kinds_stay unit.name unit.values (lists_with s.profile (settings_in s fragment unit.dropins) unit.name h.links) s.profile

  kinds_by : (status : Status) → HasAllOf s unit status → map (λ list. list.kind) unit.deps ≡ naming_kinds
  kinds_by (Loaded fragment) h = kinds_if_loaded (Some fragment) h
  kinds_by BuiltIn h = kinds_if_loaded None h
  kinds_by NotFound h = ap (map (λ (list : DependencyList). list.kind)) h.no_deps
  kinds_by Masked h = ap (map (λ (list : DependencyList). list.kind)) h.no_deps
  kinds_by (Bad cause) h = ap (map (λ (list : DependencyList). list.kind)) h.no_deps

  ascends_if_loaded : (fragment : Option PlaceParts) (list : DependencyList) → HasSettings s fragment unit
      → IsAmong list unit.deps → IsStrictlySortedBy name_cmp list.names
  ascends_if_loaded fragment list h c =
      let entries = settings_in s fragment unit.dropins in
      implied_ascend unit.name unit.values (lists_with s.profile entries unit.name h.links) s.profile
      (λ l own. list_ascends s.profile entries unit.name h.links l own) list (subst (IsAmong list) h.deps_are c)

  ascends_by : (status : Status) (list : DependencyList) → HasAllOf s unit status → IsAmong list unit.deps
      → IsStrictlySortedBy name_cmp list.names
  ascends_by (Loaded fragment) list h c = ascends_if_loaded (Some fragment) list h c
  ascends_by BuiltIn list h c = ascends_if_loaded None list h c
  ascends_by NotFound list h c = nothing_ascends list (subst (IsAmong list) h.no_deps c)
  ascends_by Masked list h c = nothing_ascends list (subst (IsAmong list) h.no_deps c)
  ascends_by (Bad cause) list h c = nothing_ascends list (subst (IsAmong list) h.no_deps c)

pub units_list_all_kinds : UnitsListAllKinds
units_list_all_kinds s name unit p = kinds_by s unit unit.status p.has

pub lists_ascend : ListsAscend
lists_ascend s name unit list p c = ascends_by s unit unit.status list p.has (among_from_contains list unit.deps c)

-- what a unit has under its own name
module _ (s : HostViewMap) (name : Name) (unit : LoadedUnit) (p : IsUnit s name unit) where
  own_names : AreNames s unit.name unit.names
  own_names = subst (λ (n : Name). AreNames s n unit.names) (sym p.name_is) p.names_are

  own_status : IsStatus s.profile unit.name (resolution s unit.name).choice unit.status
  own_status = subst (λ (n : Name). IsStatus s.profile n (resolution s n).choice unit.status) (sym p.name_is) p.status_is

  loaded_from : (status : Status) → unit.status ≡ status → IsTrue (is_loaded_by status) → IsLoadedFrom s unit.name (fragment_by status)
  loaded_from status e loaded = record {
    status = unit.status;
    status_is = own_status;
    loaded = subst (λ (x : Status). IsTrue (is_loaded_by x)) (sym e) loaded;
    fragment_is = ap fragment_by e;
  }

  names_nothing : {Z : Type 0} (dep : DepKind) (v : Name) → unit.deps ≡ no_names → IsListed unit.deps dep v → Z
  names_nothing dep v none l = absurd (nothing_listed dep v (subst (λ (lists : List DependencyList). IsListed lists dep v) none l))

  listed_names : (dep : DepKind) (v : Name) (status : Status) → unit.status ≡ status → HasAllOf s unit status
      → IsListed unit.deps dep v → IsNamed s unit.name dep v
  listed_names dep v (Loaded fragment) e h l = named_from_listed s unit own_names (Some fragment) (loaded_from (Loaded fragment) e refl) h dep v l
  listed_names dep v BuiltIn e h l = named_from_listed s unit own_names None (loaded_from BuiltIn e refl) h dep v l
  listed_names dep v NotFound e h l = names_nothing dep v h.no_deps l
  listed_names dep v Masked e h l = names_nothing dep v h.no_deps l
  listed_names dep v (Bad cause) e h l = names_nothing dep v h.no_deps l

  settings_by : (status : Status) → IsTrue (is_loaded_by status) → HasAllOf s unit status → HasSettings s (fragment_by status) unit
  settings_by (Loaded fragment) loaded h = h
  settings_by BuiltIn loaded h = h
  settings_by NotFound loaded h = absurd (true≢false (sym loaded))
  settings_by Masked loaded h = absurd (true≢false (sym loaded))
  settings_by (Bad cause) loaded h = absurd (true≢false (sym loaded))

  same_status : (fragment : Option PlaceParts) (loaded : IsLoadedFrom s unit.name fragment) → loaded.status ≡ unit.status
  same_status fragment loaded = one_status s.profile unit.name (resolution s unit.name).choice loaded.status unit.status loaded.status_is own_status

  settings_with : (fragment : Option PlaceParts) → IsLoadedFrom s unit.name fragment → HasSettings s fragment unit
  settings_with fragment loaded =
      subst (λ (f : Option PlaceParts). HasSettings s f unit) loaded.fragment_is
      (settings_by loaded.status loaded.loaded (subst (HasAllOf s unit) (sym (same_status fragment loaded)) p.has))

  same_names : (names : List Name) → AreNames s unit.name names → names ≡ unit.names
  same_names names are = one_list_of_names s unit.name names unit.names are own_names

  same_dropins : (names : List Name) (dropins : List PlaceParts) (fragment : Option PlaceParts)
      → AreNames s unit.name names → AreDropIns s names dropins → HasSettings s fragment unit → dropins ≡ unit.dropins
  same_dropins names dropins fragment are drop_ins_are h =
      one_dropins s unit.names dropins unit.dropins (subst (λ (ns : List Name). AreDropIns s ns dropins) (same_names names are) drop_ins_are) h.dropins_are

  named_listed : (dep : DepKind) (v : Name) → IsNamed s unit.name dep v → IsListed unit.deps dep v
  named_listed dep v (counts, inl n) =
      let h = settings_with n.fragment n.loaded in
      word_listed s unit own_names n.fragment n.loaded h dep v n.text counts
      (subst (λ (ps : List PlaceParts). IsAssigned s.profile (items_of s (files_with n.fragment ps)) dep n.text) (same_dropins n.names n.dropins n.fragment n.names_are n.dropins_are h) n.assigned) n.named
  named_listed dep v (counts, inr (inl (dir, kind_is, n))) =
      subst (λ (d : DepKind). IsListed unit.deps d v) kind_is
      (link_listed s unit own_names n.fragment n.loaded (settings_with n.fragment n.loaded) dir v n.link (subst (λ (d : DepKind). Counts s.profile d v) (sym kind_is) counts)
      (subst (λ (ns : List Name). IsLinked s ns dir n.link) (same_names n.names n.names_are) n.linked) n.named)
  named_listed dep v (counts, inr (inr n)) =
      let h = settings_with n.fragment n.loaded in
      let rows : rows_of s.profile (settings_in s n.fragment n.dropins) unit.name ≡ unit.values =
      ap (λ ps. rows_of s.profile (settings_in s n.fragment ps) unit.name) (same_dropins n.names n.dropins n.fragment n.names_are n.dropins_are h) ∙ sym h.values_are in
      let implied = among_from_contains {X = DepKind × Name} (dep, v) (implied_names (facts_of unit.name (rows_of s.profile (settings_in s n.fragment n.dropins) unit.name))) n.implied in
      implied_in_deps s unit own_names n.fragment n.loaded h dep v counts n.by_manager
      (subst (λ (rows : List Row). IsAmong {X = DepKind × Name} (dep, v) (implied_names (facts_of unit.name rows))) rows implied)

pub lists_have_what_is_named : ListsHaveWhatIsNamed
lists_have_what_is_named s name unit dep v p = (
  λ l. subst (λ (n : Name). IsNamed s n dep v) p.name_is (listed_names s name unit p dep v unit.status refl p.has l),
  λ n. named_listed s name unit p dep v (subst (λ (u : Name). IsNamed s u dep v) (sym p.name_is) n),
)

-- a unit that is loaded from somewhere is loaded
loaded_is : (s : HostViewMap) (name : Name) (unit : LoadedUnit) (fragment : Option PlaceParts) → IsUnit s name unit
    → IsLoadedFrom s name fragment → IsTrue (is_loaded_by unit.status)
loaded_is s name unit fragment p loaded =
    subst (λ (x : Status). IsTrue (is_loaded_by x)) (one_status s.profile name (resolution s name).choice loaded.status unit.status loaded.status_is p.status_is) loaded.loaded

pub others_name_none : OthersNameNone
others_name_none s name unit dep v p (counts, inl n) = loaded_is s name unit n.fragment p n.loaded
others_name_none s name unit dep v p (counts, inr (inl (dir, kind_is, n))) = loaded_is s name unit n.fragment p n.loaded
others_name_none s name unit dep v p (counts, inr (inr n)) = loaded_is s name unit n.fragment p n.loaded
