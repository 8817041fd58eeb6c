-- The assignments and notes of a file, defined from its logical lines.
-- Source: systemd.syntax(7), "Introduction"; that a file is read on behind a bad header is this project's own.
use Rattle.std.proofs.Common.{if◌then◌else◌, ◌++◌, ◌∷◌}
use Rattle.section_reader.specs.Prelude.{[], flat_map, List, map, None, Some, ℕ}
use Rattle.section_reader.specs.{declared.assignments.{Assignment.{Assignment}, Note.{Note}, NoteKind.{NoteKind, TheVariants.{BadHeader, NoEquals, OutsideSection}}}, Lines.{Line}, Logical.{logical_lines}, Parts.{header_name, is_bracketed, pair_of}}

-- the lines up to the first that begins with a bracket
unfoldable pub up_to_bracket : List Line → List Line
up_to_bracket [] = []
up_to_bracket (line ∷ rest) = if is_bracketed line.text then [] else line ∷ up_to_bracket rest

-- what a line of a section assigns: one assignment or none
unfoldable pub assigned : List ℕ → Line → List Assignment
assigned section line = elim (pair_of line.text) [
  | None ↦ []
  | Some pair ↦ record { section = section; key = pair.0; value = pair.1; line = line.number } ∷ []
]

abbrev pub note : NoteKind → Line → Note
note kind line = record { line = line.number; kind = kind }

-- the note on a line of a section that assigns nothing
unfoldable pub unassigned : Line → List Note
unassigned line = elim (pair_of line.text) [
  | None ↦ note NoEquals line ∷ []
  | Some pair ↦ []
]

-- what the section of this header assigns, if the header is good: its lines are those up to the next that begins with a
-- bracket
abbrev pub section_items : Line → List Line → List Assignment
section_items line rest = elim (header_name line.text) [
  | None ↦ []
  | Some name ↦ flat_map (assigned name) (up_to_bracket rest)
]

-- The assignments, section by section.
unfoldable pub assignments_in : List Line → List Assignment
assignments_in [] = []
assignments_in (line ∷ rest) = section_items line rest ++ assignments_in rest

-- the notes on a header and its section: after a bad header the lines up to the next that begins with a bracket have
-- none
abbrev pub section_notes : Line → List Line → List Note
section_notes line rest = elim (header_name line.text) [
  | None ↦ note BadHeader line ∷ []
  | Some name ↦ flat_map unassigned (up_to_bracket rest)
]

-- The notes on headers and sections.
unfoldable pub notes_following : List Line → List Note
notes_following [] = []
notes_following (line ∷ rest) = (if is_bracketed line.text then section_notes line rest else []) ++ notes_following rest

-- The notes: on each line before any header, good or bad, and then section by section.
unfoldable pub notes_in : List Line → List Note
notes_in lines = map (note OutsideSection) (up_to_bracket lines) ++ notes_following lines

-- the assignments of a file
unfoldable pub assignments_of : List ℕ → List Assignment
assignments_of bytes = assignments_in (logical_lines bytes)

-- the notes on the lines of a file
unfoldable pub notes_of : List ℕ → List Note
notes_of bytes = notes_in (logical_lines bytes)
