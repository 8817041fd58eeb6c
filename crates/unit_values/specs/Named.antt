-- The units that texts name, where a unit means them.
-- Source: systemd.unit(5), "Description"; systemd.socket(5), "Service="; systemd.timer(5), systemd.path(5), "Unit=".
use Rattle.std.proofs.Common.{if◌then◌else◌, ◌&&◌, ◌++◌, ◌∷◌}
use Rattle.unit_values.specs.Prelude.{[], Bool, bytes_eq, false, for_unit, Instance, is_name, Kind, kind, List, Name, None, not, Option, option_and_then, Plain, shape, Shape, Some, stem, Template, Text, true, word}

-- the unit that a unit means by a text, if it is a name; a template is filled in as in dependencies
abbrev pub named : Name → Text → Option Name
named unit text = if is_name text then for_unit unit text else None

abbrev pub is_template : Shape → Bool
is_template Plain = false
is_template Template = true
is_template Instance = false

-- the suffix of a type
abbrev pub suffix_of : Option Kind → Text
suffix_of None = []
suffix_of (Some k) = word k

-- a text is the name of a unit of a type, and no template's
abbrev pub names_unit : Kind → Text → Bool
names_unit k text = is_name text && bytes_eq (suffix_of (kind text)) (word k) && not (is_template (shape text))

-- the unit of another type with the same stem
abbrev pub sister : Text → Name → Text
sister suffix unit = stem unit ++ 46 ∷ suffix

abbrev pub or_sister : Text → Name → Option Text → Text
or_sister suffix unit (Some text) = text
or_sister suffix unit None = sister suffix unit

abbrev pub unless_itself : Name → Name → Option Name
unless_itself unit name = if bytes_eq name unit then None else Some name

-- another unit that a text names
abbrev pub other_named : Name → Text → Option Name
other_named unit text = option_and_then (unless_itself unit) (named unit text)

abbrev pub first : List Text → Option Text
first [] = None
first (text ∷ texts) = Some text
