-- Escaping of bytes in unit names.
-- Source: systemd.unit(5), "String Escaping for Inclusion in Unit Names"; systemd-escape(1).
use Rattle.std.proofs.Common.{if◌then◌else◌, ◌%◌, ◌&&◌, ◌*◌, ◌++◌, ◌+◌, ◌/◌, ◌==◌, ◌||◌, ◌∷◌}
use Rattle.unit_name.specs.Prelude.{[], Bool, digit_char, digit_value, flat_map, is_ascii_alphanumeric, List, nat_lt, None, Option, Some, ℕ}

-- a letter, a digit, or one of : _ .
unfoldable pub is_kept : ℕ → Bool
is_kept b = is_ascii_alphanumeric b || b == 58 || b == 95 || b == 46

-- a backslash, an x and two hexadecimal digits
unfoldable pub hex_escape : ℕ → List ℕ
hex_escape b = 92 ∷ 120 ∷ digit_char (b / 16) ∷ digit_char (b % 16) ∷ []

-- the escaped form of a byte that isn't the first
unfoldable pub escaped_byte : ℕ → List ℕ
escaped_byte b = if b == 47 then 45 ∷ [] else if is_kept b then b ∷ [] else hex_escape b

-- the escaped form of the first byte, where a dot is escaped too
abbrev pub escaped_first : ℕ → List ℕ
escaped_first b = if b == 46 then hex_escape b else escaped_byte b

-- the escaped form of these bytes
unfoldable pub escape : List ℕ → List ℕ
escape [] = []
escape (b ∷ bs) = escaped_first b ++ flat_map escaped_byte bs

-- the byte with these two hexadecimal digits
abbrev pub hex_byte : ℕ → ℕ → Option ℕ
hex_byte h l = if nat_lt (digit_value h) 16 && nat_lt (digit_value l) 16 then Some (16 * digit_value h + digit_value l) else None

-- the byte before the others, if both exist
abbrev pub put_first : Option ℕ → Option (List ℕ) → Option (List ℕ)
put_first (Some b) (Some bs) = Some (b ∷ bs)
put_first o p = None

-- the byte that a byte other than a backslash spells
abbrev pub unescaped_byte : ℕ → Option ℕ
unescaped_byte b = if b == 92 then None else if b == 45 then Some 47 else Some b

-- the byte that a backslash, a letter and two digits spell
abbrev pub unescaped_four : ℕ → ℕ → ℕ → Option ℕ
unescaped_four x h l = if x == 120 then hex_byte h l else None

-- the bytes that a text spells: a backslash takes the three bytes after it, every other byte stands for itself
unfoldable pub unescape : List ℕ → Option (List ℕ)
unescape [] = Some []
unescape (b ∷ x ∷ h ∷ l ∷ rest) =
    if b == 92 then put_first (unescaped_four x h l) (unescape rest) else put_first (unescaped_byte b) (unescape (x ∷ h ∷ l ∷ rest))
unescape (b ∷ rest) = put_first (unescaped_byte b) (unescape rest)
