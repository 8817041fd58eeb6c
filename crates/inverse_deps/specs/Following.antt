-- Which targets come after what they pull, by indices.
-- Source: systemd.target(5), "Default Dependencies".
use Rattle.std.proofs.Common.{◌↔◌, ◌≡◌, ◌⊎◌}
use Rattle.inverse_deps.specs.Prelude.{[], After, Before, Bool, Dependency, false, IsAmong, IsStrictlySortedBy, IsTrue, kind, List, Name, NameLoad, nat_cmp, neighbors, OfAlias, OfUnit, slice_index_or, Some, Target, ℕ}
use Rattle.inverse_deps.specs.{Dependencies.{orders_targets}, Tables.{HasKind}}

-- ---- what is given

-- the rows say that the unit with one index comes before that with the other, or that this comes after it
abbrev pub ComesBefore : List (List Dependency) → ℕ → ℕ → Type 0
ComesBefore rows i j = HasKind (slice_index_or rows i []) Before j ⊎ HasKind (slice_index_or rows j []) After i

-- these are the units before which the unit with this index comes, in ascending order
pub record IsBeforeList (rows : List (List Dependency)) (index : ℕ) (indices : List ℕ) : Type 0 where
  pub ascending : IsStrictlySortedBy nat_cmp indices
  pub exact : (j : ℕ) → IsAmong j indices ↔ ComesBefore rows index j

-- ---- what may follow

-- what a name resolves to has default dependencies
abbrev pub defaults_in : NameLoad → Bool
defaults_in (OfUnit unit) = unit.has_defaults
defaults_in (OfAlias of) = false

-- the name with this index, with what it resolves to
abbrev pub entry_at : List (Name × NameLoad) → ℕ → Name × NameLoad
entry_at names index = slice_index_or names index ([], OfAlias [])

-- a target with default dependencies
pub record IsLeading (entry : Name × NameLoad) : Type 0 where
  pub is_target : kind entry.0 ≡ Some Target
  pub defaults : IsTrue (defaults_in entry.1)

-- By this dependency a target may come after a unit, which is none of those before which it comes.
pub record IsPulled (names : List (Name × NameLoad)) (before : List ℕ) (one : Dependency) : Type 0 where
  pub orders : IsTrue (orders_targets one.kind)
  pub defaults : IsTrue (defaults_in (entry_at names one.index).1)
  pub free : ¬ IsAmong one.index before

-- the same by one of these dependencies, on this index
pub record HasPulled (names : List (Name × NameLoad)) (before : List ℕ) (deps : List Dependency) (index : ℕ) : Type 0 where
  pub one : Dependency
  pub there : IsAmong one deps
  pub index_is : one.index ≡ index
  pub pulled : IsPulled names before one

-- The unit of a name, with these dependencies, may come after the unit with an index.
pub record MayBeAfter (names : List (Name × NameLoad)) (entry : Name × NameLoad) (before : List ℕ)
    (deps : List Dependency) (index : ℕ) : Type 0 where
  pub leading : IsLeading entry
  pub pulled : HasPulled names before deps index

-- these are the units that the unit with an index may come after, in ascending order
pub record IsMayList (names : List (Name × NameLoad)) (before : List (List ℕ)) (rows : List (List Dependency))
    (index : ℕ) (indices : List ℕ) : Type 0 where
  pub ascending : IsStrictlySortedBy nat_cmp indices
  pub exact : (j : ℕ) → IsAmong j indices
      ↔ MayBeAfter names (entry_at names index) (neighbors before index) (slice_index_or rows index []) j

-- ---- what follows

-- The unit with this index comes after one of the others, unless that may come after it.
pub record IsAfterOne (may : List (List ℕ)) (index : ℕ) (others : List ℕ) (one : Dependency) : Type 0 where
  pub kind_is : one.kind ≡ After
  pub there : IsAmong one.index others
  pub one_way : ¬ IsAmong index (neighbors may one.index)

-- the same of those that it may come after
abbrev pub IsFollowing : List (List ℕ) → ℕ → Dependency → Type 0
IsFollowing may index one = IsAfterOne may index (neighbors may index) one
