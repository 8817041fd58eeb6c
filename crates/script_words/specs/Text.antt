-- The bytes that a text with escapes spells.
-- Source: this project's own.
use Rattle.std.proofs.Common.{if◌then◌else◌, ◌&&◌, ◌*◌, ◌++◌, ◌+◌, ◌<◌, ◌==◌, ◌∷◌, ◌≡◌, ◌≢◌}
use Rattle.script_words.specs.Prelude.{[], All, codes, digit_value, flat_map, List, nat_lt, None, Option, Some, ℕ}

-- These bytes spell one byte: a byte spells itself, except the backslash, which begins an escape.
pub data IsSpelling (part : List ℕ) (byte : ℕ) : Type 0 where
  itself : part ≡ byte ∷ [] → byte ≢ 92 → IsSpelling part byte
  line_feed : part ≡ codes "\\n" → byte ≡ 10 → IsSpelling part byte
  tab : part ≡ codes "\\t" → byte ≡ 9 → IsSpelling part byte
  backslash : part ≡ codes "\\\\" → byte ≡ 92 → IsSpelling part byte
  two_digits : (high low : ℕ) → part ≡ codes "\\x" ++ high ∷ low ∷ [] → digit_value high < 16 → digit_value low < 16
      → byte ≡ 16 * digit_value high + digit_value low → IsSpelling part byte

-- A text spells these bytes: it is the concatenation of their spellings.
unfoldable pub Spells : List ℕ → List ℕ → Type 0
Spells text [] = text ≡ []
Spells text (byte ∷ bytes) = (part : List ℕ) × (rest : List ℕ) × (text ≡ part ++ rest) × IsSpelling part byte × Spells rest bytes

-- The text spells no bytes: a backslash in it doesn't begin an escape.
abbrev pub IsBadText : List ℕ → Type 0
IsBadText text = (bytes : List ℕ) → Spells text bytes → ⊥

-- the byte that two hexadecimal digits spell, and the text after them
abbrev pub hex_read : List ℕ → Option (ℕ × List ℕ)
hex_read (high ∷ low ∷ rest) = if nat_lt (digit_value high) 16 && nat_lt (digit_value low) 16 then Some (16 * digit_value high + digit_value low, rest) else None
hex_read text = None

-- the byte that an escape spells, given the text after its backslash, and the text after the escape
abbrev pub escape_read : List ℕ → Option (ℕ × List ℕ)
escape_read [] = None
escape_read (letter ∷ rest) =
    if letter == 110 then Some (10, rest) else (if letter == 116 then Some (9, rest) else (if letter == 92 then Some (92, rest)
    else (if letter == 120 then hex_read rest else None)))

-- the first byte that a text spells, and the text after its spelling
abbrev pub byte_read : List ℕ → Option (ℕ × List ℕ)
byte_read [] = None
byte_read (b ∷ rest) = if b == 92 then escape_read rest else Some (b, rest)

-- none of these bytes is a backslash
abbrev pub HasNoBackslash : List ℕ → Type 0
HasNoBackslash bytes = All (λ b. b ≢ 92) bytes

-- the bytes with each backslash doubled
abbrev pub with_doubled : List ℕ → List ℕ
with_doubled bytes = flat_map (λ b. if b == 92 then 92 ∷ 92 ∷ [] else b ∷ []) bytes
