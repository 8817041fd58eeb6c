-- Paths, and the units that are named after them. A path has a slash before each component, and no other: the root is the
-- empty text. No component is empty or a dot.
-- Source: systemd.unit(5), "String Escaping for Inclusion in Unit Names"; that a text with `..` is no path is this
-- project's own.
use Rattle.std.proofs.Common.{if◌then◌else◌, ◌&&◌, ◌++◌, ◌==◌, ◌||◌, ◌∷◌}
use Rattle.implied_names.specs.Prelude.{[], Automount, before_last, Bool, bytes_eq, codes, drop, escape, filter, flat_map, is_empty, is_name, Kind, kind, length, List, list_any, map, Mount, Name, nat_eq, None, not, Option, option_and_then, slice_split, Some, starts_with, stem, Swap, Text, unescape, ℕ}

abbrev pub is_slash : ℕ → Bool
is_slash b = b == 47

-- a component counts: it isn't empty, and no dot
abbrev pub counts : Text → Bool
counts part = not (is_empty part) && not (bytes_eq part (codes "."))

-- the components of a text that count
abbrev pub components : Text → List Text
components text = filter counts (slice_split is_slash text)

abbrev pub behind_slash : Text → Text
behind_slash part = 47 ∷ part

-- the path of components
abbrev pub joined : List Text → Text
joined parts = flat_map behind_slash parts

abbrev pub is_up : Text → Bool
is_up part = bytes_eq part (codes "..")

-- The path that a text writes; none where it doesn't begin with a slash, or goes up.
unfoldable pub path_of : Text → Option Text
path_of text = if starts_with nat_eq text (codes "/") && not (list_any is_up (components text)) then Some (joined (components text)) else None

-- the path is below another
abbrev pub is_below : Text → Text → Bool
is_below path top = starts_with nat_eq path top && starts_with nat_eq (drop (length top) path) (codes "/")

abbrev pub is_at_or_below : Text → Text → Bool
is_at_or_below path top = bytes_eq path top || is_below path top

-- the folder that a path is in
abbrev pub above : Text → Text
above path = before_last is_slash path

-- the stem of the units that are named after a path
abbrev pub stem_for : Text → Text
stem_for path = if is_empty path then codes "-" else escape (drop 1 path)

-- the name of the unit of a type, by its suffix, that is named after a path
abbrev pub unit_at : Text → Text → Text
unit_at suffix path = stem_for path ++ 46 ∷ suffix

-- the path, if these units have this stem
abbrev pub with_stem : Text → Text → Option Text
with_stem name path = if bytes_eq (stem_for path) name then Some path else None

abbrev pub path_spelled : Text → Option Text
path_spelled text = path_of (behind_slash text)

-- the path that units with this stem are named after
abbrev pub path_named : Text → Option Text
path_named name = option_and_then (with_stem name) (option_and_then path_spelled (unescape name))

abbrev pub place_by : Option Kind → Name → Option Text
place_by (Some Mount) unit = path_named (stem unit)
place_by (Some Automount) unit = path_named (stem unit)
place_by (Some Swap) unit = path_named (stem unit)
place_by other unit = None

-- the path that a mount, an automount or a swap is named after
abbrev pub place : Name → Option Text
place unit = place_by (kind unit) unit

-- the bytes before each slash of a text, and all of them; others stand before the text
abbrev pub cuts : Text → Text → List Text
cuts before [] = before ∷ []
cuts before (b ∷ bs) = if is_slash b then before ∷ cuts (before ++ b ∷ []) bs else cuts (before ++ b ∷ []) bs

-- a path and all above it, from the root on
abbrev pub way_to : Text → List Text
way_to path = cuts [] path

-- the mounts of a path, and of all above it
abbrev pub mounts_on : Text → List Name
mounts_on path = filter is_name (map (unit_at (codes "mount")) (way_to path))
