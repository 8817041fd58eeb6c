-- The lines of a script, and which of them are ignored.
-- Source: this project's own.
use Rattle.std.proofs.Common.{◌||◌}
use Rattle.script_words.specs.{Prelude.{Bool, codes, lines, List, list_all, nat_eq, starts_with, ℕ}, Words.{is_space}}

-- The lines of a script, as std's `lines` returns those of a text. A line ends at a line feed, and one carriage return
-- directly before that is dropped. The last line needs no line feed; a carriage return at its end then belongs to it.
unfoldable pub lines_of : List ℕ → List (List ℕ)
lines_of script = lines script

-- A line is ignored if it begins with `#` or has only spaces.
unfoldable pub is_passed_over : List ℕ → Bool
is_passed_over line = starts_with nat_eq line (codes "#") || list_all is_space line
