-- What a store holds in a scope: entries by path.
-- Source: this project's own.
use Rattle.std.proofs.Common.{if◌then◌else◌, ◌∷◌}
use Rattle.path_maps.specs.Prelude.{[], Content, Entry, EntryMap, eq_by_cmp, FinMap, List, Option, option_and_then, path_cmp, PathParts, PlaceParts, Scope, scope_cmp, shown}
use Rattle.std.specs.FinMap as finmap

-- At each path at most one entry.
abbrev pub PathMap : Type 0
PathMap = FinMap path_cmp Entry

-- The visible content at a path.
abbrev pub shown_at : PathMap → PathParts → Option Content
shown_at m p = option_and_then shown (finmap.get m p)

-- The place of a path in a scope.
abbrev pub within : Scope → PathParts → PlaceParts
within scope path = record { scope = scope; path = path }

-- The entries at places of a scope, by path.
abbrev pub entries_of : Scope → List (PlaceParts × Entry) → List (PathParts × Entry)
entries_of scope [] = []
entries_of scope (e ∷ es) = if eq_by_cmp scope_cmp scope e.0.scope then (e.0.path, e.1) ∷ entries_of scope es else entries_of scope es

-- What a store holds in a scope.
unfoldable pub scope_of : EntryMap → Scope → PathMap
scope_of s scope = finmap.from_sorted (entries_of scope (finmap.entries s))
