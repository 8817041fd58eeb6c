-- Whether a unit has default dependencies.
-- Source: systemd.unit(5), "DefaultDependencies="; that perpetual units have none is what systemd 252 does.
use Rattle.unit_values.specs.Prelude.{Bool, codes, not, unwrap_or}
use Rattle.unit_values.specs.{BuiltIn.{is_perpetual}, Facts.{Facts, last_boolean, values_in}}

-- The unit has default dependencies: what it says, and else not if it is perpetual.
abbrev pub has_defaults : Facts → Bool
has_defaults f = unwrap_or (last_boolean (values_in f.rows (codes "Unit") (codes "DefaultDependencies"))) (not (is_perpetual f.unit))
