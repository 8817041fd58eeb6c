-- The forms of lines: blank, comment, continued, header, assignment.
-- Source: systemd.syntax(7), "Introduction"; which bytes are whitespace is this project's own.
use Rattle.std.proofs.Common.{if◌then◌else◌, ◌&&◌, ◌++◌, ◌-◌, ◌==◌, ◌||◌, ◌∷◌}
use Rattle.section_reader.specs.Prelude.{[], after_first, before_first, Bool, codes, drop, ends_with, length, List, list_all, nat_eq, nat_lt, None, Option, position_or_len, prefix_len, slice_range, Some, starts_with, suffix_len, take, ℕ}
use Rattle.section_reader.specs.declared.parts.LineForm.{LineForm, TheVariants.{Blank, Comment, Continued, Whole}}

-- whitespace is space, tab and carriage return
abbrev pub is_white : ℕ → Bool
is_white b = b == 32 || b == 9 || b == 13

-- bytes without the whitespace at the start
abbrev pub trim_start : List ℕ → List ℕ
trim_start bytes = drop (prefix_len is_white bytes) bytes

-- bytes without the whitespace at the end
abbrev pub trim_end : List ℕ → List ℕ
trim_end bytes = take (length bytes - suffix_len is_white bytes) bytes

-- bytes without the whitespace at both ends
unfoldable pub trimmed : List ℕ → List ℕ
trimmed bytes = trim_end (trim_start bytes)

-- the line has only whitespace
abbrev pub is_blank : List ℕ → Bool
is_blank line = list_all is_white line

-- the first byte after leading whitespace is `#` or `;`
abbrev pub is_comment : List ℕ → Bool
is_comment line = starts_with nat_eq (trim_start line) (codes "#") || starts_with nat_eq (trim_start line) (codes ";")

-- the last byte is a backslash
abbrev pub is_continued : List ℕ → Bool
is_continued line = ends_with nat_eq line (codes "\\")

-- The form of a physical line. A blank line or a comment is never continued.
unfoldable pub form : List ℕ → LineForm
form line = if is_blank line then Blank else (if is_comment line then Comment else (if is_continued line then Continued else Whole))

-- a continued line, with a space in place of the backslash at its end
abbrev pub spaced : List ℕ → List ℕ
spaced line = take (length line - 1) line ++ 32 ∷ []

abbrev pub has_bytes : List ℕ → Bool
has_bytes text = nat_lt 0 (length text)

-- a line that begins with a bracket is a header, good or bad
abbrev pub is_bracketed : List ℕ → Bool
is_bracketed text = starts_with nat_eq text (codes "[")

-- The name in a good header, which ends in a bracket and isn't empty between the two: all that is between them.
unfoldable pub header_name : List ℕ → Option (List ℕ)
header_name text = if is_bracketed text && ends_with nat_eq text (codes "]") && nat_lt 2 (length text) then Some (slice_range text 1 (length text - 1)) else None

abbrev pub is_equals : ℕ → Bool
is_equals b = b == 61

-- the text before the first equals sign
abbrev pub key_in : List ℕ → List ℕ
key_in text = trimmed (before_first is_equals text)

-- the text after the first equals sign
abbrev pub value_in : List ℕ → List ℕ
value_in text = trimmed (after_first is_equals text)

-- The key and the value of a line; `None` if it has no equals sign or the key is empty.
unfoldable pub pair_of : List ℕ → Option (List ℕ × List ℕ)
pair_of text = if nat_lt (position_or_len is_equals text) (length text) && has_bytes (key_in text) then Some (key_in text, value_in text) else None
