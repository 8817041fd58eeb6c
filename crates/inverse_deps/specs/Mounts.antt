-- What the mounts on the way to a unit's paths add to its row.
-- Source: systemd.unit(5), "RequiresMountsFor=".
use Rattle.std.proofs.Common.{◌<◌, ◌∷◌, ◌≡◌}
use Rattle.inverse_deps.specs.Prelude.{[], After, Bad, BuiltIn, Dependency, DepKind, IsAmong, List, Loaded, LoadedUnit, LoadMap, Masked, Name, NameLoad, NotFound, OfAlias, OfUnit, Requires, Some, Status, unit_in, ℕ}
use Rattle.inverse_deps.specs.Indices.{count_of, name_at}

abbrev pub dependency : DepKind → ℕ → Dependency
dependency dep index = record { kind = dep; index = index }

-- By a mount's status: units come after one that is loaded, and require one that has a file.
abbrev pub deps_by : Status → ℕ → List Dependency
deps_by (Loaded place) index = dependency After index ∷ dependency Requires index ∷ []
deps_by BuiltIn index = dependency After index ∷ []
deps_by NotFound index = []
deps_by Masked index = []
deps_by (Bad cause) index = []

-- the same by what the mount's name resolves to
abbrev pub deps_on : NameLoad → ℕ → List Dependency
deps_on (OfUnit unit) index = deps_by unit.status index
deps_on (OfAlias of) index = []

-- this is a dependency of the unit with this index on the mount of this name
pub record IsByMount (load : LoadMap) (index : ℕ) (name : Name) (one : Dependency) : Type 0 where
  pub below : one.index < count_of load
  pub named : name_at load one.index ≡ name
  pub another : ¬ (one.index ≡ index)
  pub mount : LoadedUnit
  pub mount_is : unit_in load name ≡ Some mount
  pub by_status : IsAmong one (deps_by mount.status one.index)

-- the same on one of these mounts
pub record IsByMounts (load : LoadMap) (index : ℕ) (mounts : List Name) (one : Dependency) : Type 0 where
  pub name : Name
  pub there : IsAmong name mounts
  pub by_mount : IsByMount load index name one

-- the mounts on the way to the paths of the unit that a name resolves to
abbrev pub mounts_in : NameLoad → List Name
mounts_in (OfUnit unit) = unit.mounts
mounts_in (OfAlias of) = []
