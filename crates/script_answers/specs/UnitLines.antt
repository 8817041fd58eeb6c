-- How a unit is written.
-- Source: this project's own.
use Rattle.std.proofs.Common.{◌++◌, ◌∷◌}
use Rattle.fragment_choice.specs.declared.choices.Cause.TheVariants.{Kind}
use Rattle.unit_loads.specs.declared.units.{Status.TheVariants.{Bad, BuiltIn, Masked, NotFound}, UnitNote.TheVariants.{File}}
use Rattle.script_answers.specs.Prelude.{[], Cause, codes, decimal, DependencyList, DepKind, flat_map, LinkedUnit, List, Loaded, LoadedUnit, Loop, Name, place_text, PlaceParts, Row, Setting, Shape, Status, Target, UnitNote, word, ℕ}
use Rattle.script_answers.specs.Texts.{spaced_names}
use Rattle.section_reader.specs.Words as line_notes
use Rattle.setting_rules.specs.Notes as setting_notes

-- the code and the name of a cause
abbrev pub cause_text : Cause → List ℕ
cause_text Kind = codes "B1 Kind"
cause_text Shape = codes "B2 Shape"
cause_text Loop = codes "B3 Loop"
cause_text Target = codes "B4 Target"

-- the status of a unit
abbrev pub status_text : Status → List ℕ
status_text (Loaded place) = codes "loaded " ++ place_text place
status_text BuiltIn = codes "built-in"
status_text NotFound = codes "not-found"
status_text Masked = codes "masked"
status_text (Bad cause) = codes "bad " ++ cause_text cause

abbrev pub dropin_line : PlaceParts → List ℕ
dropin_line place = codes "dropin " ++ place_text place ++ codes "\n"

-- the section, the key, the value
abbrev pub row_line : Row → List ℕ
row_line row = row.section ++ codes "." ++ row.key ++ codes "=" ++ row.value ++ codes "\n"

-- the kind and its names, if there are any
abbrev pub names_line : DepKind → List Name → List ℕ
names_line dep [] = []
names_line dep (name ∷ names) = word dep ++ codes ":" ++ spaced_names (name ∷ names) ++ codes "\n"

abbrev pub kind_line : DependencyList → List ℕ
kind_line list = names_line list.kind list.names

-- the code of a note, and the line or the key that it is about
abbrev pub note_line : UnitNote → List ℕ
note_line (File place note) = codes "note " ++ line_notes.code_of note.kind ++ codes " " ++ place_text place ++ codes ":" ++ decimal note.line ++ codes "\n"
note_line (Setting note) = codes "note " ++ setting_notes.code_of note.kind ++ codes " " ++ note.section ++ codes "." ++ note.key ++ codes "\n"

-- the main name of a unit, its status, and all its names
abbrev pub head_text : LoadedUnit → List ℕ
head_text unit = unit.name ++ codes "\nstatus " ++ status_text unit.status ++ codes "\nnames" ++ spaced_names unit.names ++ codes "\n"

-- the answer about a unit with these lists of edges
abbrev pub text_with : LoadedUnit → List DependencyList → List ℕ
text_with unit lists =
    codes "unit " ++ head_text unit ++ flat_map dropin_line unit.dropins ++ flat_map row_line unit.values ++ flat_map kind_line lists ++ flat_map note_line unit.notes ++ codes "end\n"

-- The answer about a unit with its edges.
abbrev pub unit_text : LinkedUnit → List ℕ
unit_text linked = text_with linked.unit linked.edges

-- The answers about units with their edges, one after another.
abbrev pub units_text : List LinkedUnit → List ℕ
units_text all = flat_map unit_text all ++ codes "end\n"
