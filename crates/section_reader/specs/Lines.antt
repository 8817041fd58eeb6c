-- The physical lines of a file, with their numbers.
-- Source: systemd.syntax(7), "Introduction"; the mark and the carriage return are this project's own.
use Rattle.std.proofs.Common.{if◌then◌else◌, ◌+◌, ◌∷◌}
use Rattle.section_reader.specs.Prelude.{[], drop, lines, List, nat_eq, starts_with, ℕ}

-- the byte order mark of UTF-8
abbrev pub byte_order_mark : List ℕ
byte_order_mark = 239 ∷ 187 ∷ 191 ∷ []

-- a file without a byte order mark at its very start
abbrev pub without_mark : List ℕ → List ℕ
without_mark bytes = if starts_with nat_eq bytes byte_order_mark then drop 3 bytes else bytes

-- a line, physical or logical, and its number in the file
pub record Line : Type 0 where
  pub number : ℕ
  pub text : List ℕ

-- consecutive lines with these texts, numbered from n
unfoldable pub numbered : ℕ → List (List ℕ) → List Line
numbered n [] = []
numbered n (text ∷ texts) = record { number = n; text = text } ∷ numbered (n + 1) texts

-- The physical lines of a file, numbered from 1. A line ends at a line feed, and one carriage return directly before
-- that belongs to the line end. The last line needs no line feed if it isn't empty; a carriage return at its end then
-- belongs to the line.
unfoldable pub physical_lines : List ℕ → List Line
physical_lines bytes = numbered 1 (lines (without_mark bytes))
