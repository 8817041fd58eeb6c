-- Maps of paths by scope, and the one map from places to entries that they represent.
-- Source (maps of joins are joins): Shapiro, Preguica, Baquero, Zawirski 2011; the rest is this project's own.
use Rattle.std.specs.FinMap.{find}
use Rattle.path_maps.specs.Prelude.{Entry, EntryMap, IsMap, List, map, MapBelow, Option, or_empty, PathParts, PlaceParts, Scope, scope_cmp}
use Rattle.path_maps.specs.{PathMaps.{AreRanks, listed, look_up, RankMap, RanksBelow}, Scopes.{within}, Spread.{spread}}
use Rattle.std.specs.FinMap as finmap

-- What each scope has, by rank, folder and name.
abbrev pub ScopeMap : Type 0
ScopeMap = List (Scope × RankMap)

-- The second map has all that the first has, scope by scope.
abbrev pub ScopesBelow : ScopeMap → ScopeMap → Type 0
ScopesBelow = MapBelow scope_cmp RanksBelow

-- Scopes are in ascending order, and none is empty.
abbrev pub AreScopes : ScopeMap → Type 0
AreScopes = IsMap scope_cmp RanksBelow AreRanks

-- What a scope has.
abbrev pub ranks_of : ScopeMap → Scope → RankMap
ranks_of m scope = or_empty (find scope_cmp scope m)

-- What is written at a place, by a look-up of its scope and then three of its path.
abbrev pub look_up_place : ScopeMap → PlaceParts → Option Entry
look_up_place m q = look_up (ranks_of m q.scope) q.path

-- Entries with their places in a scope.
abbrev pub placed : {E : Type 0} → Scope → List (PathParts × E) → List (PlaceParts × E)
placed scope es = map (λ e. (within scope e.0, e.1)) es

-- Each entry with its place: of one scope, and of all scopes.
abbrev pub in_scope : Scope → RankMap → List (PlaceParts × Entry)
in_scope scope ranks = placed scope (listed ranks)

abbrev pub all_listed : ScopeMap → List (PlaceParts × Entry)
all_listed = spread in_scope

-- The map from places to entries.
abbrev pub all_held : ScopeMap → EntryMap
all_held m = finmap.from_sorted (all_listed m)
