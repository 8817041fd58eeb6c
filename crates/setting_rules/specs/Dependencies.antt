-- The units that a unit's settings name.
-- Source: systemd.unit(5), "[Unit] Section Options"; that a template takes the instance or the prefix is this project's
-- own.
use Rattle.std.proofs.Common.{if◌then◌else◌}
use Rattle.setting_rules.specs.Prelude.{[], codes, Err, expand, filter_map, flat_map, is_name, List, map, Name, name_cmp, None, Ok, Option, Profile, Result, result_ok, Some}
use Rattle.setting_rules.specs.{declared.{dependency_lists.DependencyList.{DependencyList}, keys.SettingKey.{SettingKey}, kinds.DepKind.{DepKind}, notes.{SettingNote.{SettingNote}, SettingNoteKind.{SettingNoteKind, TheVariants.{BadEscape, BadName}}}}, Kinds.{is_settable, naming_kinds, word}, Maps.{SettingMap, values_at}, Rules.{Text}, Settings.{note_on}, Words.{for_unit, words_of}}
use Rattle.std.specs.FinMap as finmap

-- the name, or `BadName` if there is none
abbrev pub or_bad_name : Option Name → Result Name SettingNoteKind
or_bad_name None = Err BadName
or_bad_name (Some name) = Ok name

-- the unit that an expanded word names
abbrev pub named_by_text : Name → Option Text → Result Name SettingNoteKind
named_by_text unit None = Err BadEscape
named_by_text unit (Some text) = if is_name text then or_bad_name (for_unit unit text) else Err BadName

-- The unit that a word of a unit's dependencies names, or what is wrong with it: the word is expanded, and then read as
-- a name.
unfoldable pub named_by : Name → Text → Result Name SettingNoteKind
named_by unit w = named_by_text unit (expand w unit)

-- the error, if any
abbrev pub result_err : {T E : Type 0} → Result T E → Option E
result_err (Ok x) = None
result_err (Err e) = Some e

-- the names that words give
abbrev pub names_by : Name → List Text → List Name
names_by unit ws = filter_map (λ w. result_ok (named_by unit w)) ws

-- what is wrong with words
abbrev pub faults_by : Name → List Text → List SettingNoteKind
faults_by unit ws = filter_map (λ w. result_err (named_by unit w)) ws

-- names in byte order, without duplicates
abbrev pub in_byte_order : List Name → List Name
in_byte_order names = finmap.keys (finmap.from_entries {X = Unit {0}} {R = name_cmp} (map (λ name. (name, tt)) names))

-- the key that sets dependencies of a kind
abbrev pub key_for : DepKind → SettingKey
key_for kind = record { section = codes "Unit"; key = word kind }

-- the words in the values of a kind's key; none if no key sets the kind
abbrev pub words_for : Profile → SettingMap → DepKind → List Text
words_for profile entries kind = if is_settable profile kind then flat_map words_of (values_at entries (key_for kind)) else []

-- the names that a unit's settings give for a kind
abbrev pub list_for : Profile → SettingMap → Name → DepKind → DependencyList
list_for profile entries unit kind = record { kind = kind; names = in_byte_order (names_by unit (words_for profile entries kind)) }

-- A list for each kind by which a unit may name another, in the order of the kinds.
unfoldable pub lists_of : Profile → SettingMap → Name → List DependencyList
lists_of profile entries unit = map (list_for profile entries unit) naming_kinds

-- the notes on the words of a kind
abbrev pub notes_for : Profile → SettingMap → Name → DepKind → List SettingNote
notes_for profile entries unit kind = map (note_on (key_for kind)) (faults_by unit (words_for profile entries kind))

-- The notes on words, in the order of the kinds and then of the words.
unfoldable pub word_notes : Profile → SettingMap → Name → List SettingNote
word_notes profile entries unit = flat_map (notes_for profile entries unit) naming_kinds
