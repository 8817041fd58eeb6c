-- What code adds to bit sets and lists. Only private clauses cite these, and the clause of `lesser`.
use Rattle.std.proofs.Common.{◌+◌, ◌≡◌, ◌⊎◌}
use Rattle.index_rows.specs.Prelude.{Bool, IsAmong, length, List, MatchOption, min, nat_cmp, None, Option, Some, ℕ}
use Rattle.index_rows.specs.{Adjacency.{IsMember}, BitSetLaws.{unset}, Least.{IsLeast}}

-- the nodes of a list were added to the set, and those that weren't in it before were added to the noted ones
pub record IsSpread (old new : List Bool) (before after nodes : List ℕ) : Type 0 where
  pub units : length new ≡ length old
  pub kept : (v : ℕ) → IsMember old v → IsMember new v
  pub all : (v : ℕ) → IsAmong v nodes → IsMember new v
  pub origin : (v : ℕ) → IsMember new v → IsMember old v ⊎ IsAmong v nodes
  pub notes_kept : (v : ℕ) → IsAmong v before → IsAmong v after
  pub noted : (v : ℕ) → IsMember new v → IsMember old v ⊎ IsAmong v after
  pub notes_origin : (v : ℕ) → IsAmong v after → IsAmong v before ⊎ (IsAmong v nodes × ¬ IsMember old v)
  pub sum : unset new + length after ≡ unset old + length before

-- the least member of a set, or none if it is empty
abbrev pub IsLeastOrNone : (ℕ → Type 0) → Option ℕ → Type 0
IsLeastOrNone set least = MatchOption least ((v : ℕ) → ¬ set v) (IsLeast nat_cmp set)

-- the lesser of two indices, each of which may be missing
abbrev pub lesser_of : Option ℕ → Option ℕ → Option ℕ
lesser_of None second = second
lesser_of (Some one) None = Some one
lesser_of (Some one) (Some other) = Some (min one other)
