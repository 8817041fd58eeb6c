-- Names in byte order, each with an index among them: definitions for private clauses.
-- Source: this project's own.
use Rattle.std.proofs.Common.{◌<◌}
use Rattle.parallel_load.specs.Prelude.{[], All, is_sorted, IsTrue, keys_of, length, List, Name, name_cmp, slice_index_or, ℕ}

-- the name at an index
abbrev pub key_at : List (Name × ℕ) → ℕ → Name
key_at names index = slice_index_or (keys_of names) index []

-- the index that a position has
abbrev pub index_at : List (Name × ℕ) → ℕ → ℕ
index_at names at = let none : Name × ℕ = ([], 0) in (slice_index_or names at none).1

-- names in ascending order, each with the index of some name
pub record IsIndex (names : List (Name × ℕ)) : Type 0 where
  pub sorted : IsTrue (is_sorted name_cmp names)
  pub within : All (λ p. p.1 < length names) names
