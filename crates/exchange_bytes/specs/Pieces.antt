-- Words for private clauses: a store that takes the entries of scopes as they are read.
-- Source: this project's own.
use Rattle.std.specs.Prelude.{ℕ, List, Option, None, Ok, map}
use Rattle.std.specs.FinMap as finmap
use Rattle.std.specs.List.{fold}
use Rattle.byte_fields.specs.Reading.{◌>>=◌}
use Rattle.load_path.specs.Paths.{path_cmp, PathParts}
use Rattle.load_places.specs.Places.{scope_cmp}
use Rattle.load_places.specs.declared.places.Scope.{Scope}
use Rattle.edit_sums.specs.Entries.{Entry}
use Rattle.edit_sums.specs.Sums.{edit_of, EntryMap, with_edit}
use Rattle.path_maps.specs.PlaceMaps.{placed}
use Rattle.store_bytes.specs.ListReading.{group_at, list_at, pair_above_at, pairs_above_at, Reader}
use Rattle.store_bytes.specs.Reading.{entry_at, path_at, scope_at}
use Rattle.store_bytes.specs.Stores.{flattened, Scoped}

-- with these entries of a scope
abbrev pub with_own : Scope → EntryMap → List (PathParts × Entry) → EntryMap
with_own scope s es = fold with_edit s (map edit_of (placed scope es))

-- with the entries of these scopes
abbrev pub with_scopes : EntryMap → List Scoped → EntryMap
with_scopes s gs = fold with_edit s (map edit_of (flattened gs))

-- so many entries of a scope are read
unfoldable pub own_taken : Scope → EntryMap → ℕ → Reader EntryMap
own_taken scope s count bytes = pairs_above_at path_cmp path_at entry_at count None bytes >>= λ es. Ok (with_own scope s es.0, es.1)

-- a scope is read, above the last one
unfoldable pub scope_taken : Option Scope → EntryMap → Reader (EntryMap × Scope)
scope_taken last s bytes = pair_above_at scope_cmp scope_at (group_at path_cmp path_at entry_at) last bytes >>= λ g. Ok ((with_own g.0.0 s g.0.1, g.0.0), g.1)

-- all scopes are read
unfoldable pub scopes_taken : Reader EntryMap
scopes_taken bytes = list_at scope_cmp scope_at (group_at path_cmp path_at entry_at) bytes >>= λ gs. Ok (with_scopes finmap.empty gs.0, gs.1)
