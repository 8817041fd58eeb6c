-- Units that a manager loads without a file.
-- Source: systemd.device(5), systemd.slice(5); systemd.special(7), "-.slice", "system.slice", "-.mount".
use Rattle.unit_loads.specs.Prelude.{Bool, Choice, false, is_built_in, is_perpetual, Manager, Name, Profile}
use Rattle.fragment_choice.specs.declared.choices.Choice.TheVariants as choice

-- A manager loads a unit of this name without a file, after this choice: a device, a slice or the root mount where nothing
-- is found, and a perpetual unit even where it is masked.
abbrev pub is_loaded_without_file : Profile → Name → Choice → Bool
is_loaded_without_file Manager unit choice.NotFound = is_built_in unit
is_loaded_without_file Manager unit choice.Masked = is_perpetual unit
is_loaded_without_file profile unit other = false
