-- Where to find what is held at a level: definitions for private clauses.
-- Source: this project's own.
use Rattle.std.proofs.Common.{if◌then◌else◌, ◌%◌, ◌/◌, ◌==◌}
use Rattle.path_maps.specs.{Folders.{is_in, path_at}, HostViews.{HostViewMap, Own}, Prelude.{[], Entry, filter, List, None, Option, option_map, PathParts, Some, ℕ}, Scopes.{PathMap}}
use Rattle.std.specs.FinMap as finmap

-- What is seen in the directories of a level.
abbrev pub holding : HostViewMap → ℕ → Option PathMap
holding v level = if level % 2 == 0 then option_map (λ (own : Own). own.held) v.own else Some v.fleet

-- The path within its scope of what is seen at a path: it has the rank in place of the level.
abbrev pub path_after : PathParts → PathParts
path_after p = path_at (p.rank / 2) p.folder p.name

-- The entries of a folder of a level, with their paths in their scope.
abbrev pub after_entries : ℕ → List ℕ → Option PathMap → List (PathParts × Entry)
after_entries level folder None = []
after_entries level folder (Some held) = filter (λ p. is_in (level / 2) folder p.0) (finmap.entries held)
