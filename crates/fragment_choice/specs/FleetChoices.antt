-- The choice of a unit's main file without hosts: from the fleet's paths, by rank. Only one law about hosts cites it.
-- Source: systemd.unit(5), "Unit File Load Path" and "Description".
use Rattle.std.proofs.Common.{◌∷◌}
use Rattle.fragment_choice.specs.Prelude.{[], first_said, Fleet, List, Name, Option, option_and_then, option_or, path_at, PathMap, shown_at, template_of, unwrap_or, within, ℕ}
use Rattle.fragment_choice.specs.{Choices.{content_says}, declared.choices.Choice.{Choice, TheVariants.{NotFound}}}

-- The ranks of the directories; each overrides those after it.
abbrev pub ranks : List ℕ
ranks = 0 ∷ 1 ∷ 2 ∷ 3 ∷ []

-- What is visible of the own name `o` in the directory of a rank says this of `n`. The place of a fragment is its path
-- for the fleet.
abbrev pub fleet_says : PathMap → Name → Name → ℕ → Option Choice
fleet_says m n o rank = option_and_then (content_says n o (within Fleet (path_at rank [] o))) (shown_at m (path_at rank [] o))

-- What the least rank says that says anything of `n` under the own name `o`.
abbrev pub fleet_own_choice : PathMap → Name → Name → Option Choice
fleet_own_choice m n o = first_said (fleet_says m n o) ranks

-- What the own paths of `n` say, else what those of its template say.
abbrev pub fleet_choice : PathMap → Name → Choice
fleet_choice m n = unwrap_or (option_or (fleet_own_choice m n n) (option_and_then (fleet_own_choice m n) (template_of n))) NotFound
