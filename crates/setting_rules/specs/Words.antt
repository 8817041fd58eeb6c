-- What the words in a dependency's values name.
-- Source: systemd.unit(5), "[Unit] Section Options"; that quotes mean nothing is this project's own.
use Rattle.std.proofs.Common.{if◌then◌else◌}
use Rattle.setting_rules.specs.Prelude.{filter, has_bytes, Instance, instance, is_empty, is_white, List, Name, Option, Plain, prefix, Shape, shape, slice_split, Some, Template, with_instance, ℕ}

-- the words of a value: the parts between its whitespace that aren't empty
unfoldable pub words_of : List ℕ → List (List ℕ)
words_of value = filter has_bytes (slice_split is_white value)

-- the instance that a template gets from the unit that names it: the unit's own, or its prefix if it has none
abbrev pub argument : Name → List ℕ
argument unit = if is_empty (instance unit) then prefix unit else instance unit

abbrev pub named_at : Shape → Name → Name → Option Name
named_at Plain unit name = Some name
named_at Template unit name = with_instance name (argument unit)
named_at Instance unit name = Some name

-- The unit that a unit means by a name: a template gets `argument` as its instance, and any other name stays unchanged.
-- `None` if that would be too long.
abbrev pub for_unit : Name → Name → Option Name
for_unit unit name = named_at (shape name) unit name
