-- Files that are written section by section are read back.
use Rattle.std.proofs.Common.{◌++◌, ◌+◌, ◌-◌, ◌<◌, ◌∷◌, ◌≡◌, ◌≢◌}
use Rattle.section_reader.specs.Prelude.{[], All, false, flat_map, HasNoLineFeed, length, List, map, slice_index, ℕ}
use Rattle.section_reader.specs.{declared.assignments.Assignment.{Assignment}, FileLaws.{text_of_lines}, Lines.{numbered}, Logical.{logical_of}, Parts.{is_white}, Sections.{assignments_of, notes_of}}

-- the first and the last byte, if any
abbrev pub first_of : List ℕ → ℕ
first_of bytes = slice_index bytes 0

abbrev pub last_of : List ℕ → ℕ
last_of bytes = slice_index bytes (length bytes - 1)

-- there is no whitespace at the ends
abbrev pub HasBareEnds : List ℕ → Type 0
HasBareEnds bytes = (is_white (first_of bytes) ≡ false) × (is_white (last_of bytes) ≡ false)

-- A line that is one logical line by itself: not empty, no whitespace at its ends, no comment, not continued.
pub record IsOneLine (line : List ℕ) : Type 0 where
  pub some : 0 < length line
  pub bare : HasBareEnds line
  pub hash : first_of line ≢ 35
  pub semicolon : first_of line ≢ 59
  pub backslash : last_of line ≢ 92

-- a valid name in a header
pub record IsName (name : List ℕ) : Type 0 where
  pub some : 0 < length name
  pub one_line : HasNoLineFeed name

-- a valid key before an equals sign
pub record IsKey (key : List ℕ) : Type 0 where
  pub some : 0 < length key
  pub one_line : HasNoLineFeed key
  pub bare : HasBareEnds key
  pub hash : first_of key ≢ 35
  pub semicolon : first_of key ≢ 59
  pub bracket : first_of key ≢ 91
  pub equals : All (λ b. b ≢ 61) key

-- a valid value after an equals sign; it may be empty
pub record IsValue (value : List ℕ) : Type 0 where
  pub one_line : HasNoLineFeed value
  pub bare : HasBareEnds value
  pub backslash : last_of value ≢ 92

-- a section to write: its name, and its keys with their values
pub record Section : Type 0 where
  pub name : List ℕ
  pub pairs : List (List ℕ × List ℕ)

abbrev pub IsPair : List ℕ × List ℕ → Type 0
IsPair pair = IsKey pair.0 × IsValue pair.1

abbrev pub IsSection : Section → Type 0
IsSection section = IsName section.name × All IsPair section.pairs

abbrev pub header_line : List ℕ → List ℕ
header_line name = 91 ∷ name ++ 93 ∷ []

abbrev pub pair_line : List ℕ × List ℕ → List ℕ
pair_line pair = pair.0 ++ 61 ∷ pair.1

-- the lines of a section
abbrev pub section_lines : Section → List (List ℕ)
section_lines section = header_line section.name ∷ map pair_line section.pairs

-- the file of these sections
abbrev pub written : List Section → List ℕ
written sections = text_of_lines (flat_map section_lines sections)

-- the assignments of a section, the first of which is on line n
abbrev pub pairs_from : List ℕ → ℕ → List (List ℕ × List ℕ) → List Assignment
pairs_from name n [] = []
pairs_from name n (pair ∷ pairs) = record { section = name; key = pair.0; value = pair.1; line = n } ∷ pairs_from name (n + 1) pairs

-- the assignments of sections, the first of which begins on line n
abbrev pub sections_from : ℕ → List Section → List Assignment
sections_from n [] = []
sections_from n (section ∷ sections) = pairs_from section.name (n + 1) section.pairs ++ sections_from (n + 1 + length section.pairs) sections

-- Lines that are logical lines by themselves are the logical lines of their file.
abbrev pub LinesAreReadOneByOne : Type 0
LinesAreReadOneByOne = (n : ℕ) (texts : List (List ℕ)) → All IsOneLine texts → logical_of (numbered n texts) ≡ numbered n texts

-- Sections that are written are read back, each assignment with its line number, and there are no notes.
abbrev pub SectionsAreReadBack : Type 0
SectionsAreReadBack =
    (sections : List Section) → All IsSection sections
    → (assignments_of (written sections) ≡ sections_from 1 sections) × (notes_of (written sections) ≡ [])
