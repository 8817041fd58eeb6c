-- On which units a unit of a load depends: on those that it names, and for a manager on those that it and the other unit
-- make. Said of what names resolve to, by a profile.
-- Source: systemd.unit(5), "RequiresMountsFor=" and "Implicit Dependencies"; systemd.target(5), "Default Dependencies". That of
-- two targets that pull each other neither comes after the other is this project's own.
use Rattle.std.proofs.Common.{◌≡◌, ◌⊎◌}
use Rattle.inverse_deps.specs.Prelude.{After, Before, BindsTo, Bool, DepKind, false, find, fragment_by, inverse, is_loaded_by, IsAmong, IsListed, IsSome, IsTrue, kind, List, LoadedUnit, Manager, Name, name_cmp, NameLoad, Option, option_and_then, Profile, Requires, Requisite, Some, Target, true, unit_part, Upholds, Wants}

-- the unit of which this is the main name
abbrev pub unit_among : List (Name × NameLoad) → Name → Option LoadedUnit
unit_among names name = option_and_then unit_part (find name_cmp name names)

-- ---- what a unit names

-- The unit u names the unit v by this kind.
pub record NamesUnit (names : List (Name × NameLoad)) (dep : DepKind) (u v : Name) : Type 0 where
  pub unit : LoadedUnit
  pub unit_is : unit_among names u ≡ Some unit
  pub listed : IsListed unit.deps dep v
  pub other : (it : LoadedUnit) × (unit_among names v ≡ Some it)

-- ---- mounts on the way to a unit's paths

-- For a manager the mount v is on the way to a path of the unit u, and is loaded.
pub record IsMountFor (profile : Profile) (names : List (Name × NameLoad)) (u v : Name) : Type 0 where
  pub by_manager : profile ≡ Manager
  pub unit : LoadedUnit
  pub unit_is : unit_among names u ≡ Some unit
  pub there : IsAmong v unit.mounts
  pub mount : LoadedUnit
  pub mount_is : unit_among names v ≡ Some mount
  pub loaded : IsTrue (is_loaded_by mount.status)
  pub another : ¬ (u ≡ v)

-- the unit u needs the mount v, which has a file
pub record NeedsMount (profile : Profile) (names : List (Name × NameLoad)) (u v : Name) : Type 0 where
  pub mount_for : IsMountFor profile names u v
  pub has_fragment : IsSome (fragment_by mount_for.mount.status)

-- A unit comes after the mounts of its paths, and requires those that have a file.
abbrev pub IsByPath : Profile → List (Name × NameLoad) → DepKind → Name → Name → Type 0
IsByPath profile names After u v = IsMountFor profile names u v
IsByPath profile names Requires u v = NeedsMount profile names u v
IsByPath profile names other u v = ⊥

-- ---- targets after what they pull

-- what stands before targets are looked at
abbrev pub IsGiven : Profile → List (Name × NameLoad) → DepKind → Name → Name → Type 0
IsGiven profile names dep u v = NamesUnit names dep u v ⊎ IsByPath profile names dep u v

-- u comes before v by that, or v after u
abbrev pub IsGivenBefore : Profile → List (Name × NameLoad) → Name → Name → Type 0
IsGivenBefore profile names u v = IsGiven profile names Before u v ⊎ IsGiven profile names After v u

-- a target comes after what it pulls by these kinds
abbrev pub orders_targets : DepKind → Bool
orders_targets Requires = true
orders_targets Requisite = true
orders_targets Wants = true
orders_targets BindsTo = true
orders_targets Upholds = true
orders_targets other = false

-- the unit of this name has default dependencies
pub record HasDefaults (names : List (Name × NameLoad)) (u : Name) : Type 0 where
  pub unit : LoadedUnit
  pub unit_is : unit_among names u ≡ Some unit
  pub has_defaults : IsTrue unit.has_defaults

-- For a manager the target t may come after the unit u: it pulls it, both have default dependencies, and t doesn't come
-- before u.
pub record MayFollow (profile : Profile) (names : List (Name × NameLoad)) (t u : Name) : Type 0 where
  pub by_manager : profile ≡ Manager
  pub is_target : kind t ≡ Some Target
  pub dep : DepKind
  pub orders : IsTrue (orders_targets dep)
  pub pulls : IsGiven profile names dep t u
  pub target : HasDefaults names t
  pub pulled : HasDefaults names u
  pub free : ¬ IsGivenBefore profile names t u

-- It comes after it, unless each of the two may follow the other.
pub record Follows (profile : Profile) (names : List (Name × NameLoad)) (t u : Name) : Type 0 where
  pub may : MayFollow profile names t u
  pub one_way : ¬ MayFollow profile names u t

abbrev pub IsByTarget : Profile → List (Name × NameLoad) → DepKind → Name → Name → Type 0
IsByTarget profile names After t u = Follows profile names t u
IsByTarget profile names other t u = ⊥

-- ---- all

-- The unit u has the unit v as a dependency of this kind.
abbrev pub IsDependent : Profile → List (Name × NameLoad) → DepKind → Name → Name → Type 0
IsDependent profile names dep u v = IsGiven profile names dep u v ⊎ IsByTarget profile names dep u v

-- An edge of this kind leads from u to v: u depends on v by the kind, or v on u by its inverse.
abbrev pub IsEdgeAmong : Profile → List (Name × NameLoad) → DepKind → Name → Name → Type 0
IsEdgeAmong profile names dep u v = IsDependent profile names dep u v ⊎ IsDependent profile names (inverse dep) v u
