-- The load of a store: for each name of the universe its unit, or the main name of which it is an alias.
-- Source: systemd.unit(5), "Description"; that dependencies are given by main names is this project's own.
use Rattle.std.proofs.Common.{◌∷◌, ◌≡◌}
use Rattle.parallel_load.specs.Prelude.{[], AreLoaded, code_by, Coded, coded_list, coded_ℕ, coded×, DependencyList, filter, filter_map, find, HostViewMap, in_byte_order, is_same, IsUnit, keys_of, List, LoadedUnit, main, map, Name, name_cmp, NamedWords, None, not, Option, option_and_then, option_map, refl, Some, Viewer, viewer_of}
use Rattle.parallel_load.specs.{Alone.{IsAliasOf, IsLoadAlone}, declared.loaded.NameLoad.{NameLoad, TheVariants.{Alias as OfAlias, Unit as OfUnit}}, OwnLinkTargets.{AreOwnLinkTargets, coded_named_words}, Universe.{AreUniverse}}
use Rattle.load_places.specs.contracts.viewers.Viewer as viewer
use Rattle.setting_rules.specs.contracts.dependency_lists.DependencyList as list
use Rattle.parallel_load.specs.contracts.loaded.NameLoad as one

-- ---- dependencies by main names

-- names as they are in a unit's dependencies: the main name of each, without the unit itself, in byte order
abbrev pub mains_of : (Name → Name) → Name → List Name → List Name
mains_of main_of unit names = in_byte_order (filter (λ m. not (is_same m unit)) (map main_of names))

abbrev pub list_by_mains : (Name → Name) → Name → DependencyList → DependencyList
list_by_mains main_of unit list = record { kind = list.kind; names = mains_of main_of unit list.names }

-- a unit with its dependencies by main names
abbrev pub by_mains : (Name → Name) → LoadedUnit → LoadedUnit
by_mains main_of unit = record unit { deps = map (list_by_mains main_of unit.name) unit.deps }

-- ---- what a name resolves to

-- This is the unit of a main name in a load: as it is loaded alone, except that its dependencies are main names.
pub record IsLoadedUnit (s : HostViewMap) (name : Name) (unit : LoadedUnit) : Type 0 where
  pub alone : LoadedUnit
  pub is_unit : IsUnit s name alone
  pub by_mains_is : unit ≡ by_mains (main s) alone

-- This is what a name resolves to.
abbrev pub IsNameLoad : HostViewMap → Name → NameLoad → Type 0
IsNameLoad s name (OfUnit unit) = IsLoadedUnit s name unit
IsNameLoad s name (OfAlias of) = IsAliasOf s name of

-- ---- what is named

-- the dependency lists of what a name resolves to: an alias has none
abbrev pub lists_in : NameLoad → List DependencyList
lists_in (OfUnit unit) = unit.deps
lists_in (OfAlias of) = []

-- the same with these lists
abbrev pub with_lists : NameLoad → List DependencyList → NameLoad
with_lists (OfUnit unit) lists = OfUnit (record unit { deps = lists })
with_lists (OfAlias of) lists = OfAlias of

-- These are the dependency lists of the name's unit, as it is loaded alone.
pub record IsNamedAlone (s : HostViewMap) (name : Name) (one : NameLoad) (lists : List DependencyList) : Type 0 where
  pub alone : IsLoadAlone s name (with_lists one lists)
  pub lists_are : lists ≡ lists_in (with_lists one lists)

-- the same for each name
abbrev pub AreNamedAlone : HostViewMap → List (Name × NameLoad) → List (List DependencyList) → Type 0
AreNamedAlone s [] [] = Unit {0}
AreNamedAlone s [] (l ∷ ls) = ⊥
AreNamedAlone s (p ∷ ps) [] = ⊥
AreNamedAlone s (p ∷ ps) (l ∷ ls) = IsNamedAlone s p.0 p.1 l × AreNamedAlone s ps ls

-- ---- the load

-- A load: who it is for; the names that were asked for; all names in byte order, each with what it
-- resolves to; for each name the lists of what it names, before names are replaced by main names; and the link targets
-- at paths of one component.
pub record LoadMap : Type 0 where
  pub viewer : Viewer
  pub extra : List Name
  pub names : List (Name × NameLoad)
  pub named : List (List DependencyList)
  pub words : NamedWords

abbrev pub coded_name_load : Coded NameLoad
coded_name_load = (one.the_row).coded

abbrev pub coded_load : Coded LoadMap
coded_load =
    code_by (Viewer × (List Name × (List (Name × NameLoad) × (List (List DependencyList) × NamedWords))))
    (coded× (viewer.the_row).coded
    (coded× (coded_list (coded_list coded_ℕ)) (coded× (coded_list (coded× (coded_list coded_ℕ) (one.the_row).coded)) (coded× (coded_list (coded_list (list.the_row).coded)) coded_named_words))))
    (λ l. (l.viewer, (l.extra, (l.names, (l.named, l.words)))))
    (λ p. record { viewer = p.0; extra = p.1.0; names = p.1.1.0; named = p.1.1.1.0; words = p.1.1.1.1 }) (λ _. refl)

-- This is the load of what a host sees of a store, with these names asked for.
pub record IsLoad (s : HostViewMap) (extra : List Name) (load : LoadMap) : Type 0 where
  pub viewer_is : load.viewer ≡ viewer_of s
  pub extra_is : load.extra ≡ extra
  pub universe : AreUniverse s extra (keys_of load.names)
  pub loaded : AreLoaded (IsNameLoad s) load.names
  pub named : AreNamedAlone s load.names load.named
  pub words : AreOwnLinkTargets s load.words

-- ---- what is read from it

abbrev pub unit_part : NameLoad → Option LoadedUnit
unit_part (OfUnit unit) = Some unit
unit_part (OfAlias of) = None

abbrev pub main_part : NameLoad → Name
main_part (OfUnit unit) = unit.name
main_part (OfAlias of) = of

-- what a name resolves to in a load
abbrev pub load_at : LoadMap → Name → Option NameLoad
load_at load name = find name_cmp name load.names

-- the unit of a main name; none for an alias, and for a name outside the load
abbrev pub unit_in : LoadMap → Name → Option LoadedUnit
unit_in load name = option_and_then unit_part (load_at load name)

-- the main name of a name; none for a name outside the load
abbrev pub main_in : LoadMap → Name → Option Name
main_in load name = option_map main_part (load_at load name)

-- all units, in byte order of their names
abbrev pub units_in : LoadMap → List LoadedUnit
units_in load = filter_map (λ p. unit_part p.1) load.names
