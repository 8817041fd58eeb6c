-- The changed places that a host sees: definitions for private clauses.
-- Source: this project's own.
use Rattle.std.proofs.Common.{◌++◌, ◌≡◌}
use Rattle.parallel_load.specs.{OwnLinkTargets.{words_in}, Prelude.{[], HostViewMap, IsAmong, IsSome, level_for, link_targets, List, NamedWords, PathParts, PlaceParts, Viewer, ℕ}}

-- if the host sees the place and it is of one component, its name has the link targets that are cached for it
abbrev pub KeepsLinkTargets : Viewer → NamedWords → HostViewMap → PlaceParts → Type 0
KeepsLinkTargets viewer words now p = IsSome (level_for viewer p) → p.path.folder ≡ [] → words_in words p.path.name ≡ link_targets now p.path.name

-- if the host sees the place, its folder is among these; if that is empty, its name is too
abbrev pub HasParts : Viewer → List (List ℕ) → PlaceParts → Type 0
HasParts viewer parts p = IsSome (level_for viewer p) → IsAmong p.path.folder parts × (p.path.folder ≡ [] → IsAmong p.path.name parts)

-- these parts of one path are appended
pub record AddsParts (path : PathParts) (old new : List (List ℕ)) : Type 0 where
  pub more : List (List ℕ)
  pub added : new ≡ old ++ more
  pub folder : IsAmong path.folder more
  pub name : path.folder ≡ [] → IsAmong path.name more
