-- The texts of notes.
-- Source: this project's own.
use Rattle.section_reader.specs.{declared.assignments.NoteKind.{NoteKind, TheVariants.{BadHeader, NoEquals, OutsideSection}}, Prelude.{codes, List, ℕ}}

-- the code of a note
abbrev pub code_of : NoteKind → List ℕ
code_of OutsideSection = codes "K1"
code_of NoEquals = codes "K2"
code_of BadHeader = codes "K3"

-- a printed note: its code and its name
abbrev pub words_of : NoteKind → List ℕ
words_of OutsideSection = codes "K1 OutsideSection"
words_of NoEquals = codes "K2 NoEquals"
words_of BadHeader = codes "K3 BadHeader"
