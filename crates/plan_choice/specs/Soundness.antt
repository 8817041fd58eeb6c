-- What is wrong with a unit itself, apart from what it needs. Only private clauses cite this.
use Rattle.std.proofs.Common.{◌<◌, ◌≡◌}
use Rattle.plan_choice.specs.{Case.{Case}, Prelude.{Files, IsAmong, IsTrue, ℕ}, Sets.{AreInConflict, IsNeeded}}

-- nothing is: it is loaded, by files alone its requisites are running, and it conflicts with nothing that the target
-- needs
pub record IsSound (c : Case ℕ) (u : ℕ) : Type 0 where
  pub loaded : IsTrue (c.is_loaded u)
  pub requisites_run : c.profile ≡ Files → (v : ℕ) → IsAmong v (c.requisites u) → IsTrue (c.is_running v)
  pub at_peace : (v : ℕ) → IsNeeded c v → ¬ AreInConflict c u v

-- it is one of `count` units, and isn't running
abbrev pub IsIdle : (count : ℕ) → Case ℕ → ℕ → Type 0
IsIdle count c u = (u < count) × ¬ IsTrue (c.is_running u)
