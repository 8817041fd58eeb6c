-- The logical lines of a file, defined from its physical lines by the form of each.
-- Source: systemd.syntax(7), "Introduction"; what a blank line, the end of the file and several backslashes do is this
-- project's own.
use Rattle.std.proofs.Common.{if◌then◌else◌, ◌++◌, ◌∷◌}
use Rattle.section_reader.specs.{declared.parts.LineForm.TheVariants.{Blank, Comment, Continued, Whole}, Lines.{Line, physical_lines}, Parts.{form, has_bytes, spaced, trimmed}, Prelude.{[], Bool, filter, List, map, ℕ}}

-- The continuation of a continued line, taken from the lines after it: comments are skipped, and a blank line or the
-- end of the file ends it.
unfoldable pub going_on : List Line → List ℕ
going_on [] = []
going_on (line ∷ rest) = elim (form line.text) [
  | Blank ↦ []
  | Comment ↦ going_on rest
  | Continued ↦ spaced line.text ++ going_on rest
  | Whole ↦ line.text
]

-- a continued line, joined with its continuation
abbrev pub joined : Line → List Line → Line
joined line rest = record { number = line.number; text = spaced line.text ++ going_on rest }

unfoldable mutual
  -- Joined lines: blank lines and comments are left out, and a continued line is joined with its continuation.
  pub joined_lines : List Line → List Line
  joined_lines [] = []
  joined_lines (line ∷ rest) = elim (form line.text) [
    | Blank ↦ joined_lines rest
    | Comment ↦ joined_lines rest
    | Continued ↦ joined line rest ∷ lines_following rest
    | Whole ↦ line ∷ joined_lines rest
  ]

  -- the joined lines after the rest of a continuation
  pub lines_following : List Line → List Line
  lines_following [] = []
  lines_following (line ∷ rest) = elim (form line.text) [
    | Blank ↦ joined_lines rest
    | Comment ↦ lines_following rest
    | Continued ↦ lines_following rest
    | Whole ↦ joined_lines rest
  ]

-- a line without the whitespace at both ends
abbrev pub trimmed_line : Line → Line
trimmed_line line = record { number = line.number; text = trimmed line.text }

abbrev pub has_text : Line → Bool
has_text line = has_bytes line.text

-- a trimmed line and the logical lines after it; an empty line is left out
abbrev pub kept : Line → List Line → List Line
kept line rest = if has_text line then line ∷ rest else rest

-- The logical lines: joined, trimmed, and without the empty ones.
unfoldable pub logical_of : List Line → List Line
logical_of lines = filter has_text (map trimmed_line (joined_lines lines))

-- the logical lines of a file
unfoldable pub logical_lines : List ℕ → List Line
logical_lines bytes = logical_of (physical_lines bytes)
