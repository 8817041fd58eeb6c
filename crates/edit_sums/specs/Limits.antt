-- Which bytes are allowed in a file or a link.
-- Source: this project's own.
use Rattle.std.proofs.Common.{◌&&◌}
use Rattle.edit_sums.specs.Prelude.{Bool, length, List, list_all, nat_le, nat_lt, ℕ}

-- the bytes of a file: at most 65,536
abbrev pub is_file : List ℕ → Bool
is_file bytes = nat_le (length bytes) 65536

-- printable ASCII other than the space
abbrev pub is_graphic : ℕ → Bool
is_graphic b = nat_le 33 b && nat_le b 126

-- the target of a link: 1 to 4,095 such bytes
abbrev pub is_target : List ℕ → Bool
is_target bytes = nat_lt 0 (length bytes) && nat_le (length bytes) 4095 && list_all is_graphic bytes
