-- What a reader has still to give.
-- Source: this project's own.
use Rattle.std.specs.Prelude.{◌≡◌, ℕ, ◌+◌, ◌*◌, ◌^◌, ◌==◌, if◌then◌else◌, List, [], ◌∷◌, ◌++◌, length, Option, Some, None, Result, Ok, Err}
use Rattle.byte_fields.specs.Reading.{◌>>=◌, number_at}
use Rattle.byte_fields.specs.declared.faults.SpellingFault.{SpellingFault}
use Rattle.byte_fields.specs.declared.faults.SpellingFault.TheVariants as fault
use Rattle.join_law.specs.declared.versions.Version.{Version}
use Rattle.load_path.specs.Paths.{path_cmp, PathParts}
use Rattle.load_places.specs.Places.{place_cmp, PlaceParts, scope_cmp}
use Rattle.load_places.specs.declared.places.Scope.{Scope}
use Rattle.load_places.specs.declared.places.Scope.TheVariants.{Fleet}
use Rattle.edit_sums.specs.Entries.{Entry}
use Rattle.path_maps.specs.PlaceMaps.{placed}
use Rattle.store_bytes.specs.ListReading.{group_at, key_above_at, opened, pairs_above_at, Reader}
use Rattle.store_bytes.specs.Reading.{entry_at, path_at, place_at, scope_at, version_at}
use Rattle.store_bytes.specs.Stores.{flattened}

-- the pairs that were read, if no bytes follow them
abbrev pub ended : {P : Type 0} → List P × List ℕ → Result (List P) SpellingFault
ended read = if length read.1 == 0 then Ok read.0 else Err fault.Trailing

abbrev pub with_first : {P : Type 0} → P → Result (List P) SpellingFault → Result (List P) SpellingFault
with_first p read = read >>= λ ps. Ok (p ∷ ps)

-- of what was to come, this came first, and the rest is still to come; or nothing was to come
abbrev pub Yields : {P : Type 0} → Option P → Result (List P) SpellingFault → Result (List P) SpellingFault → Type 0
Yields None old new = old ≡ Ok []
Yields (Some p) old new = old ≡ with_first p new

-- ---- versions by place

-- how many pairs are left, the last place, and the bytes that are left
pub record VersionsLeft : Type 0 where
  pub count : ℕ
  pub last : Option PlaceParts
  pub rest : List ℕ

-- the versions that are still to come, or the fault that is met among them
unfoldable pub versions_to_come : VersionsLeft → Result (List (PlaceParts × Version)) SpellingFault
versions_to_come left = pairs_above_at place_cmp place_at version_at left.count left.last left.rest >>= ended

-- where reading begins
unfoldable pub versions_begun : List ℕ → Result VersionsLeft SpellingFault
versions_begun bytes = do
  inner ← opened 3 bytes
  count ← number_at inner
  Ok (record { count = count.0; last = None; rest = count.1 })

-- ---- entries by scope and path

-- how many scopes are left, the last scope, how many of its entries are left, the last path, and the bytes that are left
pub record EntriesLeft : Type 0 where
  pub scopes : ℕ
  pub scope : Option Scope
  pub entries : ℕ
  pub path : Option PathParts
  pub rest : List ℕ

-- no scope was met before the fleet
abbrev pub scope_or_fleet : Option Scope → Scope
scope_or_fleet None = Fleet
scope_or_fleet (Some s) = s

-- what is read after the entries of a scope, where these came first
abbrev pub entries_after : ℕ → Option Scope → List (PathParts × Entry) × List ℕ → Result (List (PlaceParts × Entry)) SpellingFault
entries_after scopes scope own =
    pairs_above_at scope_cmp scope_at (group_at path_cmp path_at entry_at) scopes scope own.1 >>= λ others. ended (placed (scope_or_fleet scope) own.0 ++ flattened others.0, others.1)

-- the entries that are still to come, or the fault that is met among them
unfoldable pub entries_to_come : EntriesLeft → Result (List (PlaceParts × Entry)) SpellingFault
entries_to_come left = pairs_above_at path_cmp path_at entry_at left.entries left.path left.rest >>= entries_after left.scopes left.scope

-- what stands before the entries of a scope: the scope, and how many there are
unfoldable pub scope_head_at : Option Scope → Reader (Scope × ℕ)
scope_head_at last bytes = do
  scope ← key_above_at scope_cmp scope_at last bytes
  count ← number_at scope.1
  if count.0 == 0 then Err fault.Number else Ok ((scope.0, count.0), count.1)

-- where reading begins
unfoldable pub entries_begun : ℕ → List ℕ → Result EntriesLeft SpellingFault
entries_begun kind bytes = do
  inner ← opened kind bytes
  count ← number_at inner
  Ok (record { scopes = count.0; scope = None; entries = 0; path = None; rest = count.1 })

-- a bound on how many entries are left, which falls with each
abbrev pub most_left : EntriesLeft → ℕ
most_left left = left.scopes * 2 ^ 64 + left.entries
