-- Bytes read as a big-endian number.
-- Source: this project's own.
use Rattle.std.proofs.Common.{◌*◌, ◌+◌, ◌∷◌}
use Rattle.plain_values.specs.Prelude.{[], List, ℕ}

-- the big-endian number that n followed by these bytes spells: each step multiplies by 256
abbrev pub spelled : ℕ → List ℕ → ℕ
spelled n [] = n
spelled n (b ∷ bytes) = spelled (n * 256 + b) bytes
