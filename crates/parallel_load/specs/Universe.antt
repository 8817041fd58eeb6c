-- The universe of a store: all names that a manager must know, with those that are asked for.
-- Source: systemd.unit(5), "Description" and "[Unit] Section Options"; that all names of the load path are loaded, and
-- the limit, are this project's own.
use Rattle.std.proofs.Common.{◌++◌, ◌≡◌, ◌≢◌, ◌⊎◌}
use Rattle.parallel_load.specs.Prelude.{DepKind, Files, HasOver, HostViewMap, IsAmong, IsClosure, IsLevel, IsName, IsNamed, IsReached, IsSome, List, main, Manager, Name, name_cmp, own_path, perpetual_units, Profile, shape, Template, viewed_at, ℕ}

-- a unit name, no template, at which something is visible at this level
pub record IsVisibleAt (s : HostViewMap) (level : ℕ) (n : Name) : Type 0 where
  pub name : IsName n
  pub whole : shape n ≢ Template
  pub shown : IsSome (viewed_at s (own_path n level))

-- the same at some level
abbrev pub IsVisibleName : HostViewMap → Name → Type 0
IsVisibleName s n = (level : ℕ) × IsLevel level × IsVisibleAt s level n

-- The names that are asked for: for a manager also the perpetual units, which are always there.
abbrev pub asked_by : Profile → List Name → List Name
asked_by Files extra = extra
asked_by Manager extra = perpetual_units ++ extra

-- a name that is asked for, or one at which something is visible
abbrev pub IsSource : HostViewMap → List Name → Name → Type 0
IsSource s extra n = IsAmong n (asked_by s.profile extra) ⊎ IsVisibleName s n

-- the unit of this main name names the other, by some kind
pub record Names (s : HostViewMap) (unit name : Name) : Type 0 where
  pub own : main s unit ≡ unit
  pub dep : DepKind
  pub named : IsNamed s unit dep name

-- a name leads to its main name, and a main name leads to what its unit names
abbrev pub LeadsTo : HostViewMap → Name → Name → Type 0
LeadsTo s n m = (main s n ≡ m) ⊎ Names s n m

-- the name is in the universe
abbrev pub IsInUniverse : HostViewMap → List Name → Name → Type 0
IsInUniverse s extra n = IsReached (IsSource s extra) (LeadsTo s) n

-- these are all names of the universe, each once, in byte order
abbrev pub AreUniverse : HostViewMap → List Name → List Name → Type 0
AreUniverse s extra names = IsClosure (IsSource s extra) (LeadsTo s) name_cmp names

-- the universe has more than 4,096 names
abbrev pub IsTooLarge : HostViewMap → List Name → Type 0
IsTooLarge s extra = HasOver (IsSource s extra) (LeadsTo s) name_cmp 4096
