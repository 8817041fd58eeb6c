-- Paths of the unit load path, their texts and their order.
-- Source (directories and their order): systemd.unit(5), "Unit File Load Path", four of its directories. Limits, faults
-- and the order of paths are this project's own.
use Rattle.std.proofs.Common.{if◌then◌else◌, ◌&&◌, ◌++◌, ◌+◌, ◌<◌, ◌==◌, ◌||◌, ◌∷◌, ◌≡◌}
use Rattle.load_path.specs.Prelude.{[], Bool, bytes_eq, codes, drop, Err, IsTrue, length, List, list_all, nat_cmp, nat_eq, nat_le, nat_lt, None, not, Ok, Option, option_map_or, Ordering, ordering_then, Result, slice_cmp, slice_get, slice_split, Some, starts_with, unwrap_or, ℕ}
use Rattle.load_path.specs.declared.paths.PathFault.{PathFault, TheVariants.{Component, Depth, Directory}}

-- the rank of the directory, the folder (empty if the path has only one component), and the name
pub record PathParts : Type 0 where
  pub rank : ℕ
  pub folder : List ℕ
  pub name : List ℕ

-- the directories of the load path; each overrides those after it
abbrev pub directories : List (List ℕ)
directories = codes "/etc/systemd/system" ∷ codes "/run/systemd/system" ∷ codes "/usr/local/lib/systemd/system" ∷ codes "/usr/lib/systemd/system" ∷ []

-- the directory of a rank
abbrev pub directory_of : ℕ → List ℕ
directory_of rank = unwrap_or (slice_get directories rank) []

-- whether a path has two components
abbrev pub has_folder : PathParts → Bool
has_folder path = nat_lt 0 (length path.folder)

-- the text of a path
unfoldable pub text_of : PathParts → List ℕ
text_of path = directory_of path.rank ++ 47 ∷ ((if has_folder path then path.folder ++ 47 ∷ [] else []) ++ path.name)

-- printable ASCII other than the slash, which separates components
abbrev pub is_component_byte : ℕ → Bool
is_component_byte b = nat_le 33 b && nat_le b 126 && not (b == 47)

-- exactly one or two dots
abbrev pub is_dots : List ℕ → Bool
is_dots bytes = bytes_eq bytes (codes ".") || bytes_eq bytes (codes "..")

-- one component of a path: 1 to 255 such bytes, but not exactly one or two dots
abbrev pub is_component : List ℕ → Bool
is_component bytes = nat_lt 0 (length bytes) && nat_le (length bytes) 255 && list_all is_component_byte bytes && not (is_dots bytes)

-- valid parts of a path: a directory of the load path, a component or no folder, and a component
pub record IsPath (path : PathParts) : Type 0 where
  pub directory : path.rank < 4
  pub folder : IsTrue (not (has_folder path) || is_component path.folder)
  pub name : IsTrue (is_component path.name)

-- the text after a directory and a slash, if the text begins with these
unfoldable pub below_directory : List ℕ → List ℕ → Option (List ℕ)
below_directory directory text =
    if starts_with nat_eq text (directory ++ 47 ∷ []) then Some (drop (length directory + 1) text) else None

-- the rank of the first of these directories that the text begins with, and the text below it
abbrev pub located_from : ℕ → List (List ℕ) → List ℕ → Option (ℕ × List ℕ)
located_from rank [] text = None
located_from rank (directory ∷ rest) text =
    option_map_or (λ below. Some (rank, below)) (below_directory directory text) (located_from (rank + 1) rest text)

-- the rank of the directory that the text begins with, and the text below it
unfoldable pub located : List ℕ → Option (ℕ × List ℕ)
located text = located_from 0 directories text

-- the path with one or two components, or the fault in them
abbrev pub path_below : ℕ → List (List ℕ) → Result PathParts PathFault
path_below rank [] = Err Depth
path_below rank (name ∷ []) =
    if is_component name then Ok (record { rank = rank; folder = []; name = name }) else Err Component
path_below rank (folder ∷ name ∷ []) =
    if is_component folder && is_component name then Ok (record { rank = rank; folder = folder; name = name }) else Err Component
path_below rank (first ∷ second ∷ third ∷ rest) = Err Depth

-- where a text is split into components
abbrev pub is_slash : ℕ → Bool
is_slash b = b == 47

-- the path of a text whose directory is known
abbrev pub path_within : Option (ℕ × List ℕ) → Result PathParts PathFault
path_within None = Err Directory
path_within (Some (rank, rest)) = path_below rank (slice_split is_slash rest)

-- the path that a text spells, or the first fault in it
unfoldable pub path_of : List ℕ → Result PathParts PathFault
path_of text = path_within (located text)

-- by rank, then by folder with no folder first, then by name
abbrev pub path_cmp : PathParts → PathParts → Ordering
path_cmp x y = ordering_then (nat_cmp x.rank y.rank) (ordering_then (slice_cmp nat_cmp x.folder y.folder) (slice_cmp nat_cmp x.name y.name))

-- parsing the text of a valid path gives that path, and the text of a parsed path is the text that was parsed
pub record AreTheirTexts : Type 0 where
  pub read_back : (path : PathParts) → IsPath path → path_of (text_of path) ≡ Ok path
  pub written_back : (text : List ℕ) (path : PathParts) → path_of text ≡ Ok path → (text_of path ≡ text) × IsPath path
