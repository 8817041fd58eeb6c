-- Manifests of trees.
-- Source: this project's own.
use Rattle.std.specs.Prelude.{◌++◌, ℕ, Bool, codes, flat_map, List, not}
use Rattle.std.specs.List.{list_any}
use Rattle.std.specs.Ordering.{is_eq}
use Rattle.load_path.specs.Paths.{path_cmp, PathParts, text_of}
use Rattle.edit_sums.specs.declared.contents.Content.{Content}

abbrev pub path_line : PathParts → List ℕ
path_line path = text_of path ++ codes "\n"

abbrev pub lines_text : List PathParts → List ℕ
lines_text = flat_map path_line

-- the bytes of a manifest
abbrev pub manifest_text : List PathParts → List ℕ
manifest_text paths = codes "fleet tree 1\n" ++ lines_text paths

-- a tree has nothing at this path
abbrev pub is_gone : List (PathParts × Content) → PathParts → Bool
is_gone tree path = not (list_any (λ p. is_eq (path_cmp p.0 path)) tree)
