-- The names in scripts.
-- Source: this project's own.
use Rattle.std.proofs.Common.{◌&&◌}
use Rattle.script_words.specs.Prelude.{Bool, is_ascii_alphanumeric, length, List, list_all, nat_le, nat_lt, ℕ}

-- A name has 1 to 32 bytes, each an ASCII letter or digit.
unfoldable pub is_name : List ℕ → Bool
is_name word = nat_lt 0 (length word) && nat_le (length word) 32 && list_all is_ascii_alphanumeric word
