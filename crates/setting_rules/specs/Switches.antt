-- Whether a unit refuses a manual start.
-- Source: systemd.unit(5), "[Unit] Section Options".
use Rattle.std.proofs.Common.{◌-◌}
use Rattle.setting_rules.specs.{declared.keys.SettingKey.{SettingKey}, Maps.{SettingMap, values_at}, Prelude.{Bool, codes, false, length, List, None, Option, slice_get, Some, unwrap_or}, Rules.{boolean, Text}}

-- the key of the switch
abbrev pub manual_start_key : SettingKey
manual_start_key = record { section = codes "Unit"; key = codes "RefuseManualStart" }

-- there is a text, and it spells true
abbrev pub says_yes : Option Text → Bool
says_yes None = false
says_yes (Some value) = unwrap_or (boolean value) false

-- the last of some values, if any
abbrev pub last_value : List Text → Option Text
last_value values = slice_get values (length values - 1)

-- The value of the switch is true.
unfoldable pub refuses : SettingMap → Bool
refuses entries = says_yes (last_value (values_at entries manual_start_key))
