-- What a manager adds of itself to a loaded unit: the names that it implies, whether it has default dependencies, and the
-- mounts of its paths. By files nothing is added.
-- Source: systemd.unit(5), "Implicit Dependencies", "Default Dependencies"; systemd.device(5).
use Rattle.std.proofs.Common.{if◌then◌else◌, ◌++◌, ◌∷◌}
use Rattle.manager_additions.specs.Prelude.{[], Before, Bool, DependencyList, DepKind, Device, false, Files, flat_map, in_byte_order, kind, Kind, List, Manager, map, Name, nat_eq, Option, place_of_kind, Profile, Row, Some, true}
use Rattle.unit_values.specs.{Facts.{Facts}, Defaults.{has_defaults}}
use Rattle.implied_names.specs.Implied.{implied_names, mounts_of}

-- what a unit's name and effective values say
abbrev pub facts_of : Name → List Row → Facts
facts_of unit rows = record { unit = unit; rows = rows }

-- a name by a kind, if it is this kind
abbrev pub name_for : DepKind → DepKind × Name → List Name
name_for dep entry = if nat_eq (place_of_kind entry.0) (place_of_kind dep) then entry.1 ∷ [] else []

-- the names of a kind among names by kinds
abbrev pub names_for : List (DepKind × Name) → DepKind → List Name
names_for implied dep = flat_map (name_for dep) implied

abbrev pub is_device_by : Option Kind → Bool
is_device_by (Some Device) = true
is_device_by other = false

abbrev pub unless_device : Name → List Name
unless_device name = if is_device_by (kind name) then [] else name ∷ []

-- A manager orders nothing before a device, which the machine gives.
abbrev pub counted_for : DepKind → List Name → List Name
counted_for Before names = flat_map unless_device names
counted_for other names = names

-- a list of what words and links give, with the implied names of its kind
abbrev pub with_names : List (DepKind × Name) → DependencyList → DependencyList
with_names implied list = record { kind = list.kind; names = counted_for list.kind (in_byte_order (list.names ++ names_for implied list.kind)) }

-- The lists of what a unit's words and links give, with what a manager adds; by files they are all.
abbrev pub with_implied : Profile → Name → List Row → List DependencyList → List DependencyList
with_implied Files unit rows lists = lists
with_implied Manager unit rows lists = map (with_names (implied_names (facts_of unit rows))) lists

-- The unit has default dependencies; by files none has.
abbrev pub has_defaults_by : Profile → Name → List Row → Bool
has_defaults_by Files unit rows = false
has_defaults_by Manager unit rows = has_defaults (facts_of unit rows)

-- The mounts that the unit comes after where they are units; by files none.
abbrev pub mounts_by : Profile → Name → List Row → List Name
mounts_by Files unit rows = []
mounts_by Manager unit rows = mounts_of (facts_of unit rows)
