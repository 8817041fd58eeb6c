-- The rows of a unit's settings: the values with the specifiers of its name expanded.
-- Source: systemd.unit(5), "Specifiers".
use Rattle.std.proofs.Common.{if◌then◌else◌}
use Rattle.setting_rules.specs.Prelude.{[], Bool, expand, filter, filter_map, flat_map, is_none, List, map, Name, Profile}
use Rattle.setting_rules.specs.{declared.{keys.SettingKey.{SettingKey}, notes.{SettingNote.{SettingNote}, SettingNoteKind.TheVariants.{BadEscape}}, rows.Row.{Row}, rules.KeyRule.TheVariants.{Dependency}}, Maps.{SettingMap}, Rules.{same_rule, Text}, Settings.{note_on, rule_at}}

-- the key sets dependencies
abbrev pub is_dependency : Profile → SettingKey → Bool
is_dependency profile k = same_rule (rule_at profile k) Dependency

-- a value of a key as a row
abbrev pub row : SettingKey → Text → Row
row k value = record { section = k.section; key = k.key; value = value }

-- the rows of a key's values, without those that can't be expanded
abbrev pub rows_at : Name → SettingKey → List Text → List Row
rows_at unit k values = map (row k) (filter_map (λ value. expand value unit) values)

-- a note for each value of a key that can't be expanded
abbrev pub escape_notes_at : Name → SettingKey → List Text → List SettingNote
escape_notes_at unit k values = map (λ _. note_on k BadEscape) (filter (λ value. is_none (expand value unit)) values)

-- The rows, key by key, without the keys that set dependencies.
unfoldable pub rows_of : Profile → SettingMap → Name → List Row
rows_of profile entries unit = flat_map (λ e. if is_dependency profile e.0 then [] else rows_at unit e.0 e.1) entries

-- The notes on values that can't be expanded, in the same order.
unfoldable pub escape_notes : Profile → SettingMap → Name → List SettingNote
escape_notes profile entries unit = flat_map (λ e. if is_dependency profile e.0 then [] else escape_notes_at unit e.0 e.1) entries
