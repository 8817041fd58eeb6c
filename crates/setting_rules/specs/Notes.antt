-- The texts of notes on settings.
-- Source: this project's own.
use Rattle.setting_rules.specs.{declared.notes.SettingNoteKind.{SettingNoteKind, TheVariants.{BadBoolean, BadEscape, BadName}}, Prelude.{codes, List, ℕ}}

-- the code of a note
abbrev pub code_of : SettingNoteKind → List ℕ
code_of BadBoolean = codes "K4"
code_of BadEscape = codes "K5"
code_of BadName = codes "K6"

-- a printed note: its code and its name
abbrev pub words_of : SettingNoteKind → List ℕ
words_of BadBoolean = codes "K4 BadBoolean"
words_of BadEscape = codes "K5 BadEscape"
words_of BadName = codes "K6 BadName"
