-- The effective values, defined from the whole list of a unit's assignments and the last reset in it.
-- Source: systemd.syntax(7), "Introduction", for empty values; systemd.unit(5), "Conditions and Asserts", for families.
use Rattle.std.proofs.Common.{if◌then◌else◌, ◌&&◌, ◌-◌, ◌∷◌}
use Rattle.setting_rules.specs.Prelude.{[], Assignment, Bool, drop, false, filter, is_none, is_some, length, List, list_any, map, not, Profile, true}
use Rattle.setting_rules.specs.{declared.{keys.SettingKey.{SettingKey}, notes.{SettingNote.{SettingNote}, SettingNoteKind.{SettingNoteKind, TheVariants.{BadBoolean}}}, rules.KeyRule.{KeyRule, TheVariants.{Assertion, Condition, Dependency, Ignored, Kept, Plain, Switch}}}, Maps.{same_key, SettingMap}, Rules.{boolean, is_empty, rule_of, Text}}

-- the key that an assignment sets
abbrev pub key_of : Assignment → SettingKey
key_of a = record { section = a.section; key = a.key }

-- how the values of a key are evaluated
abbrev pub rule_at : Profile → SettingKey → KeyRule
rule_at profile k = rule_of profile k.section k.key

-- a value of a key with this rule counts: it isn't ignored or invalid
abbrev pub counts_by : KeyRule → Text → Bool
counts_by Ignored value = false
counts_by Dependency value = not (is_empty value)
counts_by Switch value = is_some (boolean value)
counts_by Condition value = true
counts_by Assertion value = true
counts_by Plain value = true
counts_by Kept value = not (is_empty value)

-- an assignment counts
abbrev pub counts : Profile → Assignment → Bool
counts profile a = counts_by (rule_of profile a.section a.key) a.value

-- an empty value of a key with the first rule empties a key with the second: the key itself, or any of the same family
abbrev pub emptied_by : KeyRule → KeyRule → Bool → Bool
emptied_by Condition Condition itself = true
emptied_by Assertion Assertion itself = true
emptied_by Plain Plain itself = itself
emptied_by rule other itself = false

-- an assignment empties a key: its value is empty, and an empty value empties the key
abbrev pub resets : Profile → SettingKey → Assignment → Bool
resets profile k a = is_empty a.value && emptied_by (rule_of profile a.section a.key) (rule_at profile k) (same_key k (key_of a))

-- an assignment gives a key a value
abbrev pub gives : Profile → SettingKey → Assignment → Bool
gives profile k a = same_key k (key_of a) && counts profile a && not (is_empty a.value)

-- the values that assignments give a key
abbrev pub given : Profile → SettingKey → List Assignment → List Text
given profile k items = map (λ a. a.value) (filter (gives profile k) items)

-- the elements after the last one that passes a test; all if none does
abbrev pub following_last : {X : Type 0} → (X → Bool) → List X → List X
following_last p [] = []
following_last p (x ∷ xs) = if list_any p xs then following_last p xs else if p x then xs else x ∷ xs

-- only the last of some values
abbrev pub last_alone : List Text → List Text
last_alone values = drop (length values - 1) values

-- for a switch only the last value counts, for any other key all do
abbrev pub counted : KeyRule → List Text → List Text
counted Ignored values = values
counted Dependency values = values
counted Switch values = last_alone values
counted Condition values = values
counted Assertion values = values
counted Plain values = values
counted Kept values = values

-- The effective values of a key: those given after the last assignment that empties it; for a switch the last one.
unfoldable pub values_of : Profile → SettingKey → List Assignment → List Text
values_of profile k items = counted (rule_at profile k) (given profile k (following_last (resets profile k) items))

-- each key of a list, at its first occurrence
abbrev pub firsts : List SettingKey → List SettingKey
firsts [] = []
firsts (k ∷ ks) = k ∷ filter (λ q. not (same_key q k)) (firsts ks)

-- The keys that are entered, in the order of their first assignments that count.
unfoldable pub keys_of : Profile → List Assignment → List SettingKey
keys_of profile items = firsts (map key_of (filter (counts profile) items))

-- The effective settings by a profile: each key that is entered, with its effective values.
unfoldable pub settings_of : Profile → List Assignment → SettingMap
settings_of profile items = map (λ k. (k, values_of profile k items)) (keys_of profile items)

-- a value of a key with this rule should be a boolean and isn't
abbrev pub is_bad_by : KeyRule → Text → Bool
is_bad_by Switch value = is_none (boolean value)
is_bad_by rule value = false

abbrev pub is_bad : Profile → Assignment → Bool
is_bad profile a = is_bad_by (rule_of profile a.section a.key) a.value

-- a note on a value of a key
abbrev pub note_on : SettingKey → SettingNoteKind → SettingNote
note_on k kind = record { section = k.section; key = k.key; kind = kind }

-- The notes on values that should be booleans and aren't, in the order of the assignments.
unfoldable pub boolean_notes : Profile → List Assignment → List SettingNote
boolean_notes profile items = map (λ a. note_on (key_of a) BadBoolean) (filter (is_bad profile) items)
