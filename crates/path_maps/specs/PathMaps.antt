-- Contents with versions in maps by rank, folder and name, and the one map from paths to entries that they represent.
-- Source (maps of joins are joins): Shapiro, Preguica, Baquero, Zawirski 2011; the rest is this project's own.
use Rattle.std.{proofs.Common.{◌∷◌}, specs.FinMap.{find}}
use Rattle.path_maps.specs.Prelude.{[], At, Content, content_cmp, Entry, IsMap, IsUpTo, List, MapBelow, nat_cmp, Never, Option, or_empty, Ordering, PathParts, slice_cmp, Versioned, written_at, ℕ}
use Rattle.path_maps.specs.{Scopes.{PathMap}, Spread.{spread}}
use Rattle.std.specs.FinMap as finmap

-- By name, in one folder; by folder, in one rank; by rank.
abbrev pub NameMap : Type 0
NameMap = List (List ℕ × Versioned Content)

abbrev pub FolderMap : Type 0
FolderMap = List (List ℕ × NameMap)

abbrev pub RankMap : Type 0
RankMap = List (ℕ × FolderMap)

abbrev pub bytes_cmp : List ℕ → List ℕ → Ordering
bytes_cmp = slice_cmp nat_cmp

-- The second map has all that the first has: name by name, folder by folder, rank by rank.
abbrev pub NamesBelow : NameMap → NameMap → Type 0
NamesBelow = MapBelow bytes_cmp (IsUpTo content_cmp)

abbrev pub FoldersBelow : FolderMap → FolderMap → Type 0
FoldersBelow = MapBelow bytes_cmp NamesBelow

abbrev pub RanksBelow : RankMap → RankMap → Type 0
RanksBelow = MapBelow nat_cmp FoldersBelow

-- At each depth the keys are in ascending order, and no value is empty.
abbrev pub AreNames : NameMap → Type 0
AreNames = IsMap bytes_cmp (IsUpTo content_cmp) (λ _. Unit {0})

abbrev pub AreFolders : FolderMap → Type 0
AreFolders = IsMap bytes_cmp NamesBelow AreNames

abbrev pub AreRanks : RankMap → Type 0
AreRanks = IsMap nat_cmp FoldersBelow AreFolders

-- What is written at a path, by three look-ups.
abbrev pub look_up : RankMap → PathParts → Option Entry
look_up m q = written_at (find bytes_cmp q.name (or_empty (find bytes_cmp q.folder (or_empty (find nat_cmp q.rank m)))))

-- Each entry with its path: of one name, of one folder, of one rank, and of all ranks.
abbrev pub at_name : ℕ → List ℕ → List ℕ → Versioned Content → List (PathParts × Entry)
at_name rank folder name Never = []
at_name rank folder name (At x) = (record { rank = rank; folder = folder; name = name }, x) ∷ []

abbrev pub in_folder : ℕ → List ℕ → NameMap → List (PathParts × Entry)
in_folder rank folder = spread (at_name rank folder)

abbrev pub in_rank : ℕ → FolderMap → List (PathParts × Entry)
in_rank rank = spread (in_folder rank)

abbrev pub listed : RankMap → List (PathParts × Entry)
listed = spread in_rank

-- The map from paths to entries.
abbrev pub flat : RankMap → PathMap
flat m = finmap.from_sorted (listed m)
