-- How the units that a unit pulls are written, each with its least distance.
-- Source: systemctl(1), "list-dependencies"; the texts are this project's own.
use Rattle.std.proofs.Common.{◌++◌}
use Rattle.script_answers.specs.Prelude.{codes, decimal, flat_map, List, Name, ℕ}

-- a distance and a name
abbrev pub depth_line : ℕ × Name → List ℕ
depth_line p = decimal p.0 ++ codes " " ++ p.1 ++ codes "\n"

-- a line for each unit, by distance and then by name
abbrev pub pulled_text : List (ℕ × Name) → List ℕ
pulled_text pairs = flat_map depth_line pairs ++ codes "end\n"
