-- The names that links give to a unit.
-- Source: systemd.unit(5), "Description".
use Rattle.std.proofs.Common.{if◌then◌else◌, ◌≡◌, ◌⊎◌}
use Rattle.fragment_choice.specs.{Choices.{own_path}, Prelude.{Bool, Content, false, File, Gone, HostViewMap, is_name, IsTrue, Link, List, Name, None, Option, Some, template_of, true, viewed_at, ℕ}}

-- The unit name that these bytes are, if they are one.
abbrev pub unit_of : List ℕ → Option Name
unit_of b = if is_name b then Some b else None

abbrev pub is_link : Option Content → Bool
is_link None = false
is_link (Some Gone) = false
is_link (Some (Link target)) = true
is_link (Some (File bytes)) = false

-- `o` is `n` or its template, and a visible link at this level has the name `o`.
pub record IsLinkedBy (s : HostViewMap) (level : ℕ) (o n : Name) : Type 0 where
  pub link : IsTrue (is_link (viewed_at s (own_path o level)))
  pub owner : (o ≡ n) ⊎ (template_of n ≡ Some o)

-- A link at this level gives the name `n`.
abbrev pub IsLinkedAt : HostViewMap → ℕ → Name → Type 0
IsLinkedAt s level n = (o : Name) × IsLinkedBy s level o n
