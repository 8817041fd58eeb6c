-- The numbers that words spell.
-- Source: this project's own.
use Rattle.std.proofs.Common.{if◌then◌else◌, ◌&&◌}
use Rattle.script_words.specs.Prelude.{Bool, digits_value, is_ascii_digit, length, List, list_all, nat_le, nat_lt, None, Option, Some, ℕ}

-- 1 to 10 decimal digits whose value fits in 32 bits
abbrev pub is_number : List ℕ → Bool
is_number word = nat_lt 0 (length word) && nat_le (length word) 10 && list_all is_ascii_digit word && nat_le (digits_value 10 word) 4294967295

-- The number that a word spells. Leading zeros are allowed, up to 10 digits in all.
unfoldable pub number_of : List ℕ → Option ℕ
number_of word = if is_number word then Some (digits_value 10 word) else None
