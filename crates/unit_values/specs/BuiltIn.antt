-- Units that a manager has without a file.
-- Source: systemd.special(7), "-.slice", "system.slice", "-.mount"; systemd.device(5), systemd.slice(5).
use Rattle.std.proofs.Common.{◌&&◌, ◌==◌, ◌||◌, ◌∷◌}
use Rattle.unit_values.specs.Prelude.{[], Bool, bytes_eq, codes, Device, false, Instance, is_empty, Kind, kind, List, list_any, Mount, Name, not, Option, Plain, shape, Shape, Slice, slice_split, Some, stem, Template, true, ℕ}
use Rattle.unit_values.specs.Facts.{is_one_of}

-- the units that are always there, always run and never stop
abbrev pub perpetual_units : List Name
perpetual_units = codes "-.slice" ∷ codes "system.slice" ∷ codes "-.mount" ∷ []

abbrev pub is_perpetual : Name → Bool
is_perpetual unit = is_one_of perpetual_units (Some unit)

abbrev pub is_dash : ℕ → Bool
is_dash b = b == 45

abbrev pub is_plain : Shape → Bool
is_plain Plain = true
is_plain Template = false
is_plain Instance = false

abbrev pub is_slice : Option Kind → Bool
is_slice (Some Slice) = true
is_slice other = false

-- a way down from the root slice: no part between dashes is empty; the root slice itself is one dash
abbrev pub is_way : List ℕ → Bool
is_way name = bytes_eq name (codes "-") || not (list_any is_empty (slice_split is_dash name))

abbrev pub is_built_in_by : Option Kind → Name → Bool
is_built_in_by (Some Device) unit = true
is_built_in_by (Some Mount) unit = bytes_eq unit (codes "-.mount")
is_built_in_by (Some Slice) unit = is_plain (shape unit) && is_way (stem unit)
is_built_in_by other unit = false

-- Where no file is found for them, devices, the root mount and slices are loaded all the same.
abbrev pub is_built_in : Name → Bool
is_built_in unit = is_built_in_by (kind unit) unit
