-- What is loaded for a name, before names are replaced by main names.
-- Source: this project's own.
use Rattle.std.proofs.Common.{◌∷◌, ◌≡◌, ◌≢◌}
use Rattle.parallel_load.specs.{declared.loaded.NameLoad.{NameLoad, TheVariants.{Alias as OfAlias, Unit as OfUnit}}, Prelude.{[], DependencyList, flat_map, HostViewMap, IsUnit, List, main, Name}}

-- the name is an alias of this main name
pub record IsAliasOf (s : HostViewMap) (name of : Name) : Type 0 where
  pub main_is : main s name ≡ of
  pub other : of ≢ name

-- a unit as it is loaded by itself, or the main name of an alias
abbrev pub IsLoadAlone : HostViewMap → Name → NameLoad → Type 0
IsLoadAlone s name (OfUnit unit) = IsUnit s name unit
IsLoadAlone s name (OfAlias of) = IsAliasOf s name of

-- all names in lists of dependencies
abbrev pub names_in_lists : List DependencyList → List Name
names_in_lists lists = flat_map (λ list. list.names) lists

-- the names that must be loaded because of this one
abbrev pub named_in : NameLoad → List Name
named_in (OfUnit unit) = names_in_lists unit.deps
named_in (OfAlias of) = of ∷ []
