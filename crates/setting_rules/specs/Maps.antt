-- Maps from keys to their values, as lists of pairs without duplicate keys.
-- Source: this project's own.
use Rattle.std.proofs.Common.{if◌then◌else◌, ◌&&◌, ◌∷◌}
use Rattle.setting_rules.specs.{declared.keys.SettingKey.{SettingKey}, Prelude.{[], Bool, bytes_eq, find, List, map, None, Option, Some, suc, ℕ}, Rules.{Text}}

-- the keys with their values, in the order of the keys
abbrev pub SettingMap : Type 0
SettingMap = List (SettingKey × List Text)

abbrev pub same_key : SettingKey → SettingKey → Bool
same_key k q = bytes_eq k.section q.section && bytes_eq k.key q.key

-- the keys of a map
abbrev pub keys_in : SettingMap → List SettingKey
keys_in entries = map (λ e. e.0) entries

abbrev pub texts_or_none : Option (SettingKey × List Text) → List Text
texts_or_none None = []
texts_or_none (Some e) = e.1

-- the values of a key; none if the key is absent
abbrev pub values_at : SettingMap → SettingKey → List Text
values_at entries k = texts_or_none (find (λ e. same_key k e.0) entries)

-- the index of a key, or the index that it would get if it were entered
abbrev pub place_of : SettingMap → SettingKey → ℕ
place_of [] k = 0
place_of (e ∷ entries) k = if same_key k e.0 then 0 else suc (place_of entries k)

-- the map with the values of a key changed; an absent key is entered first, with no values
abbrev pub changed : (List Text → List Text) → SettingMap → SettingKey → SettingMap
changed change [] k = (k, change []) ∷ []
changed change (e ∷ entries) k = if same_key k e.0 then (e.0, change e.1) ∷ entries else e ∷ changed change entries k

-- the map with a key entered, unless it is present
abbrev pub with_key : SettingMap → SettingKey → SettingMap
with_key entries k = changed (λ values. values) entries k
