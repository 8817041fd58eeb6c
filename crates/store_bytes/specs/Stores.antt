-- A store's entries by scope.
-- Source: this project's own.
use Rattle.std.specs.Prelude.{List}
use Rattle.load_path.specs.Paths.{PathParts, IsPath, path_cmp}
use Rattle.load_places.specs.Places.{PlaceParts, scope_cmp}
use Rattle.load_places.specs.Texts.{IsScope}
use Rattle.load_places.specs.declared.places.Scope.{Scope}
use Rattle.edit_sums.specs.Entries.{Entry}
use Rattle.path_maps.specs.PlaceMaps.{placed}
use Rattle.path_maps.specs.Spread.{spread}
use Rattle.store_bytes.specs.ListSpelling.{AreGroup, ArePairs}
use Rattle.store_bytes.specs.Spelling.{IsEntry}

-- a scope with its entries by path
abbrev pub Scoped : Type 0
Scoped = Scope × List (PathParts × Entry)

-- scopes in ascending order, each with some entries in ascending order of their paths
abbrev pub AreScoped : List Scoped → Type 0
AreScoped = ArePairs scope_cmp IsScope (AreGroup path_cmp IsPath IsEntry)

-- all entries, each at its place
abbrev pub flattened : List Scoped → List (PlaceParts × Entry)
flattened = spread placed
