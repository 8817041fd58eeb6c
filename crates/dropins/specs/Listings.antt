-- A list of names together with a set of the same names.
-- Source: this project's own.
use Rattle.std.proofs.Common.{◌≡◌}
use Rattle.dropins.specs.{declared.folder_lists.Listing.{Listing}, FolderLists.{is_among}, Prelude.{contains, Name, name_cmp}}

-- The set has exactly the names of the list.
abbrev pub IsKept : Listing → Type 0
IsKept l = (n : Name) → contains name_cmp l.view n ≡ is_among n l.names.items
