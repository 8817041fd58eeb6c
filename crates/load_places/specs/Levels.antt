-- The levels of places, and the first level that says something.
-- Source: systemd.unit(5), "Unit File Load Path"; the word level, and that a host's directory comes before the fleet's
-- of the same rank, is this project's own.
use Rattle.std.proofs.Common.{if◌then◌else◌, ◌+◌, ◌<◌, ◌∷◌}
use Rattle.load_places.specs.{declared.{places.Scope.{Scope, TheVariants.{Fleet, Host}}, viewers.Viewer.{Viewer}}, Places.{PlaceParts}, Prelude.{[], bytes_eq, first_said, List, None, Option, Profile, Some, ℕ}}

-- The levels: for each rank a host's own directory, and then the fleet's. Each level overrides those after it.
abbrev pub levels : List ℕ
levels = 0 ∷ 1 ∷ 2 ∷ 3 ∷ 4 ∷ 5 ∷ 6 ∷ 7 ∷ []

-- The number is one of the levels.
abbrev pub IsLevel : ℕ → Type 0
IsLevel level = level < 8

-- The manager of this host reads, by these rules.
abbrev pub of_host : List ℕ → Profile → Viewer
of_host host profile = record { host = Some host; profile = profile }

-- A manager of the whole fleet reads, by these rules.
abbrev pub of_fleet : Profile → Viewer
of_fleet profile = record { host = None; profile = profile }

-- The level of a scope's directory of a rank. Without a host only the fleet's directories have a level; with a host its
-- own have one too.
abbrev pub level_in : Option (List ℕ) → Scope → ℕ → Option ℕ
level_in host Fleet rank = Some (rank + rank + 1)
level_in None (Host k) rank = None
level_in (Some h) (Host k) rank = if bytes_eq k h then Some (rank + rank) else None

-- The level of a place, if it is seen. It doesn't depend on the rules.
abbrev pub level_for : Viewer → PlaceParts → Option ℕ
level_for viewer place = level_in viewer.host place.scope place.path.rank

-- What the first level says that says anything.
abbrev pub first_level : {B : Type 0} → (ℕ → Option B) → Option B
first_level says = first_said says levels
