-- At which paths a view can affect a unit, and which paths are elsewhere. Paths have a level in place of their rank.
-- Source: systemd.unit(5), "Description" and "Unit File Load Path".
use Rattle.std.proofs.Common.{◌++◌, ◌≡◌, ◌⊎◌}
use Rattle.unit_loads.specs.Prelude.{[], dirs_with, ending, folders, IsAmong, List, Name, name_dirs, PathParts, Requires, type_dirs, Wants, ℕ}

-- the folders of a unit with these names, with their endings: those of drop-ins, also of their type's, and those of
-- links
abbrev pub unit_folders : List Name → List (List ℕ)
unit_folders names = name_dirs (folders names) ++ (type_dirs (folders names) ++ (dirs_with (ending Wants) (folders names) ++ dirs_with (ending Requires) (folders names)))

-- the path has one component, or it is in one of these folders
abbrev pub IsNear : List Name → PathParts → Type 0
IsNear names p = (p.folder ≡ []) ⊎ IsAmong p.folder (unit_folders names)
