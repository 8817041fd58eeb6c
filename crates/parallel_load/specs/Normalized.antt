-- A load made of what the closure found, by the indices of main names: definitions for private clauses.
-- Source: this project's own.
use Rattle.std.proofs.Common.{if◌then◌else◌, ◌≡◌}
use Rattle.parallel_load.specs.Prelude.{[], DependencyList, DepKind, filter_map, find, flat_map, in_byte_order, is_same, IsAmong, List, LoadedUnit, map, Name, name_cmp, NamedWords, None, Option, option_and_then, Some, Viewer, ℕ}
use Rattle.parallel_load.specs.{Alone.{named_in}, declared.{loaded.{Dependency.{Dependency}, NameLoad.{NameLoad, TheVariants.{Alias as OfAlias, Unit as OfUnit}}}, mains.Normalized.{Normalized}}, Indexes.{key_at}, Indexing.{AreIndexed}, Loads.{lists_in, LoadMap}}

-- ---- dependencies by the indices of main names

-- an index, unless it is that of the unit with this name
abbrev pub unless_unit : List (Name × ℕ) → Name → ℕ → Option ℕ
unless_unit mains unit index = if is_same (key_at mains index) unit then None else Some index

-- the index of a name's main name, unless that is the unit itself
abbrev pub other_index : List (Name × ℕ) → Name → Name → Option ℕ
other_index mains unit name = option_and_then (unless_unit mains unit) (find name_cmp name mains)

-- the indices of the main names of names, without the unit's
abbrev pub other_indices : List (Name × ℕ) → Name → List Name → List ℕ
other_indices mains unit names = filter_map (other_index mains unit) names

-- and these main names
abbrev pub other_mains : List (Name × ℕ) → Name → List Name → List Name
other_mains mains unit names = map (key_at mains) (other_indices mains unit names)

abbrev pub dependency_of : DepKind → ℕ → Dependency
dependency_of dep index = record { kind = dep; index = index }

-- a dependency list of a unit by indices
abbrev pub list_indices : List (Name × ℕ) → Name → DependencyList → List Dependency
list_indices mains unit list = map (dependency_of list.kind) (other_indices mains unit list.names)

-- and by main names
abbrev pub list_normalized : List (Name × ℕ) → Name → DependencyList → DependencyList
list_normalized mains unit list = record { kind = list.kind; names = in_byte_order (other_mains mains unit list.names) }

-- ---- what names resolve to

abbrev pub unit_normalized : List (Name × ℕ) → LoadedUnit → LoadedUnit
unit_normalized mains unit = record unit { deps = map (list_normalized mains unit.name) unit.deps }

-- what was found, with dependencies by main names
abbrev pub load_normalized : List (Name × ℕ) → NameLoad → NameLoad
load_normalized mains (OfUnit unit) = OfUnit (unit_normalized mains unit)
load_normalized mains (OfAlias of) = OfAlias of

-- its dependencies by indices
abbrev pub load_indices : List (Name × ℕ) → NameLoad → List Dependency
load_indices mains (OfUnit unit) = flat_map (list_indices mains unit.name) unit.deps
load_indices mains (OfAlias of) = []

-- a name with both, and with the lists that it had
abbrev pub normalized_name : List (Name × ℕ) → Name × NameLoad → Normalized
normalized_name mains p = record { name = p.0; load = load_normalized mains p.1; lists = lists_in p.1; deps = load_indices mains p.1 }

-- names with what they resolve to
abbrev pub name_loads : List Normalized → List (Name × NameLoad)
name_loads all = map (λ one. (one.name, one.load)) all

-- the lists of what they name
abbrev pub name_lists : List Normalized → List (List DependencyList)
name_lists all = map (λ one. one.lists) all

-- their dependencies by indices
abbrev pub name_indices : List Normalized → List (List Dependency)
name_indices all = map (λ one. one.deps) all

-- ---- the load

-- what was found is closed: it has all that each name leads to, and the unit of each alias; and units have their own
-- names
pub record IsWhole (found : List (Name × NameLoad)) : Type 0 where
  pub named : (p : Name × NameLoad) (name : Name) → IsAmong p found → IsAmong name (named_in p.1) → (one : NameLoad) × IsAmong {X = Name × NameLoad} (name, one) found
  pub mains : (name of : Name) → IsAmong {X = Name × NameLoad} (name, OfAlias of) found → (unit : LoadedUnit) × IsAmong {X = Name × NameLoad} (of, OfUnit unit) found
  pub own : (name : Name) (unit : LoadedUnit) → IsAmong {X = Name × NameLoad} (name, OfUnit unit) found → unit.name ≡ name

-- these are the names that were found with what they resolve to, dependencies by main names, and the lists that they
-- had
pub record AreNormalized (found names : List (Name × NameLoad)) (named : List (List DependencyList)) : Type 0 where
  pub mains : List (Name × ℕ)
  pub indexed : AreIndexed found found mains
  pub names_are : names ≡ name_loads (map (normalized_name mains) found)
  pub named_are : named ≡ name_lists (map (normalized_name mains) found)

-- The load is made of what was found, for a host or without one, with these names asked for and these link targets.
pub record IsNormalizedLoad (found : List (Name × NameLoad)) (viewer : Viewer) (extra : List Name) (words : NamedWords)
    (load : LoadMap) : Type 0 where
  pub viewer_is : load.viewer ≡ viewer
  pub extra_is : load.extra ≡ extra
  pub normalized : AreNormalized found load.names load.named
  pub words_are : load.words ≡ words
