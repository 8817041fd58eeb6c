-- Sets of indexed units on which the walks of a plan stand. Only private clauses cite these.
use Rattle.std.proofs.Common.{◌<◌, ◌≡◌, ◌⊎◌}
use Rattle.plan_choice.specs.{Case.{Case}, Prelude.{false, Files, IsAmong, List, Manager, ℕ}, Sets.{IsLeftAlone, IsPulled, Needs}}

-- it is one of `count` units, and isn't left alone
abbrev pub IsFree : (count : ℕ) → Case ℕ → ℕ → Type 0
IsFree count c u = (u < count) × ¬ IsLeftAlone c u

-- it is one of `count` units, and is among these or isn't left alone
abbrev pub IsGoing : (count : ℕ) → Case ℕ → List ℕ → ℕ → Type 0
IsGoing count c units u = (u < count) × (IsAmong u units ⊎ ¬ IsLeftAlone c u)

-- it needs one of these
abbrev pub NeedsSome : Case ℕ → List ℕ → ℕ → Type 0
NeedsSome c units u = (v : ℕ) × (IsAmong v units × Needs c u v)

-- it is one of `count` units, and is lacked as a requisite: it doesn't run and, for a manager, isn't pulled either
pub record IsAbsent (count : ℕ) (c : Case ℕ) (u : ℕ) : Type 0 where
  pub within : u < count
  pub rests : c.is_running u ≡ false
  pub unpulled : c.profile ≡ Manager → ¬ IsPulled c u

-- by files alone, a requisite of the unit doesn't run
pub record HasIdleRequisite (c : Case ℕ) (u : ℕ) : Type 0 where
  pub files : c.profile ≡ Files
  pub requisite : ℕ
  pub asked : IsAmong requisite (c.requisites u)
  pub rests : c.is_running requisite ≡ false
